-- What becomes of the key of a document that is offered.
use Rattle.std.specs.Prelude.{Bool, true, false, not, if◌then◌else◌, Option, Some, None}
use Rattle.std.specs.Ordering.{is_gt, match_ordering}
use Rattle.tf_model.specs.declared.value.Key.{Key}
use Rattle.tf_model.specs.Order.{key_cmp}
use Rattle.tf_page.specs.declared.fates.Fate.{Fate}
use Rattle.tf_page.specs.declared.fates.Fate.TheVariants.{Passed, LeftOut, Wanted}

-- whether the key is not above a position, or there is none
abbrev pub is_passed : Option Key → Option Key → Bool
is_passed None found = false
is_passed (Some position) None = true
is_passed (Some position) (Some k) = not (is_gt (key_cmp k position))

-- what becomes of it under the greatest key that is kept, which is none while there is room for another
abbrev pub fate_below : Option Key → Option Key → Fate
fate_below None found = Wanted
fate_below (Some greatest) None = Passed
fate_below (Some greatest) (Some k) = match_ordering (key_cmp k greatest) Wanted Passed LeftOut

-- the same above a position
abbrev pub fate_of : Option Key → Option Key → Option Key → Fate
fate_of after greatest found = if is_passed after found then Passed else fate_below greatest found
