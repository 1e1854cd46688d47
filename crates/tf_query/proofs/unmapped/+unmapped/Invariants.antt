use Rattle.std.proofs.Common.{◌≡◌, drop}
use Rattle.std.specs.Prelude.{filter}
use Rattle.std.specs.List.{fold, flat_map}
use Rattle.std.specs.Option.{option_copied}
use Rattle.tf_query.specs.Reading.{is_unmapped, fields_in}
use Rattle.tf_query.specs.Unknown.{lesser_text}
use Rattle.tf_query.proofs.unmapped.+unmapped.Given as goal

abbrev pub invariant-least_in_all-loop-query : goal.invariant-least_in_all-loop-query
invariant-least_in_all-loop-query l =
    fold lesser_text (option_copied l.least) (filter (is_unmapped l.fields) (flat_map fields_in (drop l.query-index l.queries)))
    ≡ fold lesser_text (option_copied l.initial.least) (filter (is_unmapped l.fields) (flat_map fields_in l.queries))
