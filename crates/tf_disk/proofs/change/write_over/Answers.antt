use Rattle.std.proofs.Common.{◌≡◌, ◌∙◌, ◌+◌, length, rules}
use Rattle.tf_disk.proofs.Padding.{padded, written_padded, all_written}
use Rattle.tf_disk.proofs.change.write_over.Goals as goal

pub returns-clause-ok : goal.returns-clause-ok
returns-clause-ok c =
    let longer : c.lengthen.new.file.items ≡ padded (c.args.place + length c.args.bytes.now) c.args.file.now.items = search rules in
    let whole = all_written c.lengthen.new.file.len c.lengthen.new.file.items c.copy_at.new.file (search rules) (search rules) in
    whole ∙ written_padded c.args.place c.args.bytes.now c.args.file.now.items c.lengthen.new.file.items c.copy_at.new.file longer (search rules)
