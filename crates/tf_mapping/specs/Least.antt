-- The least of texts in bytes.
use Rattle.std.specs.Prelude.{ℕ, Bool, List, Option, Some, None, if◌then◌else◌}
use Rattle.std.specs.List.{fold, list_any}
use Rattle.std.specs.Ordering.{nat_cmp, is_lt}
use Rattle.std.specs.Cmp.Lexicographic.{slice_cmp}
use Rattle.std.specs.Str.{bytes_eq}

-- the lesser, in bytes, of a text and the least one before it
abbrev pub lesser_text : Option (List ℕ) → List ℕ → Option (List ℕ)
lesser_text None text = Some text
lesser_text (Some least) text = if is_lt (slice_cmp nat_cmp text least) then Some text else Some least

-- the least of texts in bytes, none of none
abbrev pub least_text : List (List ℕ) → Option (List ℕ)
least_text texts = fold lesser_text None texts

-- whether a text is one of these
abbrev pub is_one_of : List (List ℕ) → List ℕ → Bool
is_one_of texts text = list_any (λ other. bytes_eq other text) texts
