-- The newest document of each of the keys above a position.
use Rattle.std.specs.Prelude.{◌≡◌, ℕ, false, ◌&&◌, if◌then◌else◌, List, Option, Some, None, unwrap_or}
use Rattle.std.specs.Borrow.{Bor}
use Rattle.std.specs.List.{list_any}
use Rattle.std.specs.Map.{lookup}
use Rattle.std.specs.Option.{option_copied, option_map}
use Rattle.std.specs.Ordering.{eq_by_cmp}
use Rattle.std.specs.declared.cmp.Ordering.{Ordering}
use Rattle.tf_model.specs.declared.value.Key.{Key}
use Rattle.tf_model.specs.declared.doc.Doc.{Doc}
use Rattle.tf_model.specs.declared.config.Config.{Config}
use Rattle.tf_model.specs.declared.entry.Row.{Row}
use Rattle.tf_model.specs.Changed.{is_after}
use Rattle.tf_model.specs.Keys.{has_key}
use Rattle.tf_model.specs.Latest.{newer, row_named}
use Rattle.tf_model.specs.Order.{key_cmp}
use Rattle.tf_model.specs.Rows.{of_both}
use Rattle.tf_latest.specs.Newest.{newest_of}

-- what these keys with their documents have at a key: none where the key is not there, and none in it where it has no document
abbrev pub newest_at : List (Key × Option (Bor Doc)) → Key → Option (Option Doc)
newest_at found k = option_map option_copied (lookup (eq_by_cmp key_cmp k) found)

-- each key above a position that one of the documents `seen` has, and no other, is there, with the newest of those of `docs` that have it
abbrev pub AreNewest : List ℕ → List ℕ → Config → Option Key → List Doc → List Doc → (Key → Option (Option Doc)) → Type 0
AreNewest sources sort c after seen docs found = (k : Key) → found k ≡ (if is_after after k && list_any (has_key c k) seen then Some (newest_of sources sort c docs k) else None)

-- the key is there: with what it had, or with no document
abbrev pub opened : Option (Option Doc) → Option (Option Doc)
opened found = Some (unwrap_or found None)

-- a document more, where the key is there
abbrev pub added : (Doc → Doc → Ordering) → Doc → Option (Option Doc) → Option (Option Doc)
added cmp d found = option_map (λ x. of_both (newer cmp) x (Some d)) found

-- a document more, for a key that may be a new one
abbrev pub grown : (Doc → Doc → Ordering) → Doc → Option (Option Doc) → Option (Option Doc)
grown cmp d found = added cmp d (opened found)

-- this has become of a key, and others are as they were; with no key all are
abbrev pub Changes : (Option (Option Doc) → Option (Option Doc)) → Option Key → (Key → Option (Option Doc)) → (Key → Option (Option Doc)) → Type 0
Changes change None old new = (q : Key) → new q ≡ old q
Changes change (Some k) old new = ((q : Key) → eq_by_cmp key_cmp k q ≡ false → new q ≡ old q) × (new k ≡ change (old k))

-- the row of a key, where it has a document
abbrev pub named : Key × Option (Bor Doc) → Option Row
named e = option_map (row_named e.0) (option_copied e.1)
