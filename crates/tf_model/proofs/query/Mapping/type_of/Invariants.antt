use Rattle.std.proofs.Common.{◌≡◌, drop}
use Rattle.tf_model.specs.Values.{type_at}
use Rattle.tf_model.proofs.query.Mapping.type_of.Given as goal

abbrev pub invariant-loop-name : goal.invariant-loop-name
invariant-loop-name l = type_at (drop l.name-index l.name-items) l.path ≡ type_at l.self.fields l.path
