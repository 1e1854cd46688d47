-- Documents grouped by key: one list of documents, filtered and grouped.
use Rattle.std.specs.Prelude.{ℤ, Bool, true, false, if◌then◌else◌, not, ◌&&◌, List, [], ◌∷◌, filter, filter_map, Option, Some, None, option_map, int_lt, int_le}
use Rattle.std.specs.List.{list_any, flat_map}
use Rattle.std.specs.Ordering.{eq_by_cmp}
use Rattle.tf_history.specs.Meaning.{Meaning, row_key, row_from}
use Rattle.tf_model.specs.Order.{key_cmp}
use Rattle.tf_model.specs.Keys.{is_among, sorted_keys}
use Rattle.tf_model.specs.declared.doc.Doc.{Doc}
use Rattle.tf_model.specs.declared.entry.Row.{Row}
use Rattle.tf_model.specs.declared.entry.SumRange.{SumRange}
use Rattle.tf_model.specs.declared.value.Key.{Key}

-- whether a document has a key
abbrev pub has_key : Meaning → Key → Doc → Bool
has_key c k d = is_among (c.keys d) k

-- whether a date is there and below a bound; with no bound every document is below it
abbrev pub is_below : Option ℤ → Option ℤ → Bool
is_below None value = true
is_below (Some bound) None = false
is_below (Some bound) (Some value) = int_lt value bound

-- whether a date is there and at or above a bound; with no bound every document is
abbrev pub is_from : Option ℤ → Option ℤ → Bool
is_from None value = true
is_from (Some bound) None = false
is_from (Some bound) (Some value) = int_le bound value

-- whether a document matches and, where there is a bound, has a sync value below it
abbrev pub counts : Meaning → Option ℤ → Doc → Bool
counts c bound d = c.matches d && is_below bound (c.sync d)

-- the documents that count below a bound
abbrev pub counted : Meaning → Option ℤ → List Doc → List Doc
counted c bound docs = filter (counts c bound) docs

-- the documents with a sync value at or above a bound, all where there is no bound
abbrev pub from_bound : Meaning → Option ℤ → List Doc → List Doc
from_bound c bound docs = filter (λ d. is_from bound (c.sync d)) docs

-- the row of a key over the documents that have it, none where a sum is outside i64
abbrev pub row_of : Meaning → List Doc → Key → Option Row
row_of c docs k = option_map (row_from k) (c.content (filter (has_key c k) docs))

-- the first sum outside i64 over the documents that have the key, none where the key has a row
abbrev pub sum_range : Meaning → List Doc → Key → Option SumRange
sum_range c docs k = c.wide_sum k (filter (has_key c k) docs)

-- the keys of the documents, each once, ascending
abbrev pub all_keys : Meaning → List Doc → List Key
all_keys c docs = sorted_keys (flat_map c.keys docs)

-- whether retention leaves a row: its retention value is missing or not below the cutoff
abbrev pub stays : Meaning → List Doc → Option ℤ → Row → Bool
stays c docs None r = true
stays c docs (Some cutoff) r = not (is_below (Some cutoff) (c.retained docs r))

-- the rows of the keys of the documents, ascending by key
abbrev pub grouping : Meaning → List Doc → List Row
grouping c docs = filter_map (row_of c docs) (all_keys c docs)

-- the grouping from scratch of the documents that count below a bound, without the rows below the cutoff
abbrev pub scratch : Meaning → Option ℤ → Option ℤ → List Doc → List Row
scratch c bound cutoff docs = filter (stays c docs cutoff) (grouping c (counted c bound docs))

-- the row of a key over documents, where one of them has it
abbrev pub row_if_any : Meaning → List Doc → Key → Option Row
row_if_any c docs k = if list_any (has_key c k) docs then row_of c docs k else None

-- the row of a key among rows
abbrev pub row_at : Key → List Row → Option Row
row_at k [] = None
row_at k (r ∷ rows) = if eq_by_cmp key_cmp k (row_key r) then Some r else row_at k rows

-- what a test leaves of a row
abbrev pub keep : (Row → Bool) → Option Row → Option Row
keep p None = None
keep p (Some r) = if p r then Some r else None
