-- The key of a document within bounds.
use Rattle.std.specs.Prelude.{Bool, false, Option, Some, None}
use Rattle.std.specs.Ordering.{is_ge, is_le}
use Rattle.tf_model.specs.declared.value.Key.{Key}
use Rattle.tf_model.specs.Order.{key_cmp}

-- whether there is a key and it is not below a bound
abbrev pub is_from : Option Key → Key → Bool
is_from None bound = false
is_from (Some k) bound = is_ge (key_cmp k bound)

-- whether there is a key and it is not above a bound
abbrev pub is_up_to : Option Key → Key → Bool
is_up_to None bound = false
is_up_to (Some k) bound = is_le (key_cmp k bound)
