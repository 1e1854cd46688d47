use Rattle.std.proofs.Common.{◌≡◌, map, drop}
use Rattle.std.specs.Prelude.{filter}
use Rattle.std.specs.List.{fold}
use Rattle.std.specs.Option.{option_copied}
use Rattle.tf_query.specs.Unknown.{lesser_text, first_unknown, is_unknown, member_in}
use Rattle.tf_query.proofs.unknown.first_unknown.Given as goal

abbrev pub invariant-loop-name : goal.invariant-loop-name
invariant-loop-name l =
    fold lesser_text (option_copied l.least) (filter (λ name. is_unknown (member_in l.form name)) (map (λ m. m.0) (drop l.name-index l.members))) ≡ first_unknown l.form (map (λ m. m.0) l.members)
