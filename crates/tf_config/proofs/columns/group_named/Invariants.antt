use Rattle.std.proofs.Common.{◌≡◌, drop}
use Rattle.std.specs.Prelude.{find}
use Rattle.std.specs.Str.{bytes_eq}
use Rattle.tf_config.proofs.columns.group_named.Given as goal

abbrev pub invariant-loop-group : goal.invariant-loop-group
invariant-loop-group l = find (λ group. bytes_eq group.name l.name) (drop l.group-index l.groups) ≡ find (λ group. bytes_eq group.name l.name) l.groups
