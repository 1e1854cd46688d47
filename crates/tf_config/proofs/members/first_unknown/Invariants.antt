use Rattle.std.proofs.Common.{◌≡◌, drop}
use Rattle.std.specs.Prelude.{filter}
use Rattle.std.specs.List.{fold}
use Rattle.std.specs.Option.{option_copied}
use Rattle.tf_mapping.specs.Least.{lesser_text}
use Rattle.tf_config.specs.Forms as spec
use Rattle.tf_config.specs.Members.{names_of}
use Rattle.tf_config.proofs.members.first_unknown.Given as goal

abbrev pub invariant-loop-name : goal.invariant-loop-name
invariant-loop-name l =
    fold lesser_text (option_copied l.least) (filter (spec.is_unknown l.parent (names_of l.members)) (names_of (drop l.name-index l.members))) ≡ spec.first_unknown l.parent (names_of l.members)
