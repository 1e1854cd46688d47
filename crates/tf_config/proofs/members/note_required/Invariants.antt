use Rattle.std.proofs.Common.{◌≡◌, drop, map}
use Rattle.std.specs.List.{fold}
use Rattle.std.specs.Option.{option_copied}
use Rattle.tf_config.specs.Forms.{noted, absent_of}
use Rattle.tf_config.specs.Members.{names_of, missing_each}
use Rattle.tf_config.specs.Table.{seen}
use Rattle.tf_config.proofs.members.note_required.Given as goal

abbrev pub invariant-loop-name : goal.invariant-loop-name
invariant-loop-name l =
    fold noted l.found (missing_each (option_copied l.place) (absent_of (names_of l.members) (map seen (drop l.name-index l.needed))))
    ≡ fold noted l.initial.found (missing_each (option_copied l.place) (absent_of (names_of l.members) (map seen l.needed)))
