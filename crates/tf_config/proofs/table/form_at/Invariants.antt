use Rattle.std.proofs.Common.{◌≡◌, drop, map}
use Rattle.tf_config.specs.Table as spec
use Rattle.tf_config.specs.Table.{seen}
use Rattle.tf_config.proofs.table.form_at.Given as goal

abbrev pub invariant-loop-member : goal.invariant-loop-member
invariant-loop-member l = spec.form_at (map seen (drop l.member-index l.members)) l.name ≡ spec.form_at (map seen l.members) l.name
