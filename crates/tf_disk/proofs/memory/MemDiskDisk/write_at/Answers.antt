use Rattle.std.proofs.Common.{◌≡◌, [], ◌∷◌, ◌++◌, ◌∙◌, is_ok}
use Rattle.tf_disk.specs.declared.change.Change.TheVariants.{Write}
use Rattle.tf_disk.proofs.Changes.{writes, makes_write}
use Rattle.tf_disk.proofs.memory.MemDiskDisk.write_at.Goals as goal

pub returns-in-Ok-make-clause-written : goal.returns-in-Ok-make-clause-written
returns-in-Ok-make-clause-written c =
    let pushed : c.make.new.self.changes ≡ c.args.self.now.changes ++ Write c.args.place c.args.bytes.now (is_ok c.begin-begun.result) ∷ [] =
    cc (c.in-Ok-make.ensures.ok, c.begin-begun.ensures.file.1, c.in-Ok.ensures, c.is_ok-is_done.ensures.value) in
    writes c.args.self.now c.make.new.self (c.in-Ok-make.ensures.rest.0 ∙ c.begin-begun.ensures.file.0) c.args.place c.args.bytes.now c.begin-begun.result pushed

pub returns-in-Ok-make-clause-model : goal.returns-in-Ok-make-clause-model
returns-in-Ok-make-clause-model c =
    let pushed : c.make.new.self.changes ≡ c.args.self.now.changes ++ Write c.args.place c.args.bytes.now (is_ok c.begin-begun.result) ∷ [] =
    cc (c.in-Ok-make.ensures.ok, c.begin-begun.ensures.file.1, c.in-Ok.ensures, c.is_ok-is_done.ensures.value) in
    makes_write c.args.self.now c.make.new.self (c.in-Ok-make.ensures.rest.0 ∙ c.begin-begun.ensures.file.0) c.args.place c.args.bytes.now (is_ok c.begin-begun.result) pushed
