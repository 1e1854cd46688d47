-- A configured transform's row has the same retention value among more documents.
use Rattle.std.proofs.Common.{◌≡◌, ℕ, Bool, true, false, cond, ◌&&◌, ◌||◌, List, [], ◌∷◌, ◌++◌, Option, Some, None, refl, ap, ◌∙◌, subst}
use Rattle.std.specs.Prelude.{option_and_then, option_map}
use Rattle.std.specs.List.{list_any, filter, find}
use Rattle.std.specs.Ordering.{max_by_ordering}
use Rattle.std.specs.declared.cmp.Ordering.{Ordering}
use Rattle.std.specs.declared.cmp.Ordering.TheVariants.{Less, Equal, Greater}
use Rattle.std.proofs.Common.{eq-eqb}
use Rattle.tf_model.specs.declared.doc.Doc.{Doc}
use Rattle.tf_model.specs.declared.value.Key.{Key}
use Rattle.tf_model.specs.declared.config.Config.{Config}
use Rattle.tf_model.specs.declared.config.Shape.{Shape}
use Rattle.tf_model.specs.declared.config.Shape.TheVariants as shape
use Rattle.tf_model.specs.declared.config.Retention.{Retention}
use Rattle.tf_model.specs.declared.entry.Row.{Row}
use Rattle.tf_model.specs.declared.entry.Row.TheVariants as row
use Rattle.tf_model.specs.Latest.{newer, newest, age_cmp}
use Rattle.tf_model.specs.Rows.{of_both}
use Rattle.tf_model.specs.Values.{value_of}
use Rattle.tf_history.specs.Meaning.{row_from}
use Rattle.tf_history.specs.Grouping.{has_key, counts}
use Rattle.tf_history.specs.Laws.{IsSteady}
use Rattle.tf_history.specs.Configured.{meaning, content_by, name_of}
use Rattle.tf_model.specs.Retention.{date_of, is_named, named_doc, retained_by, retained}
use Rattle.std.proofs.lemmas.Option.{same_Some}
use Rattle.tf_history.proofs.Lists.{any_filter}

or_left : (a b : Bool) → a ≡ true → (a || b) ≡ true
or_left true b e = refl
or_left false b e = absurd (let z : false ≡ true = e in cc)

or_right : (a b : Bool) → b ≡ true → (a || b) ≡ true
or_right true b e = refl
or_right false b e = e

picked_one : (p : Doc → Bool) (docs : List Doc) (o : Ordering) (x y d : Doc) → max_by_ordering o x y ≡ d → p d ≡ true
    → (y ≡ d → list_any p docs ≡ true) → (p x || list_any p docs) ≡ true
picked_one p docs Less x y d e t rest = or_right (p x) (list_any p docs) (rest e)
picked_one p docs Equal x y d e t rest = or_right (p x) (list_any p docs) (rest e)
picked_one p docs Greater x y d e t rest = or_left (p x) (list_any p docs) (ap p e ∙ t)

-- the newest is one of them
any_newest : (cmp : Doc → Doc → Ordering) (p : Doc → Bool) (d : Doc) (docs : List Doc) → newest cmp docs ≡ Some d → p d ≡ true → list_any p docs ≡ true
any_newest cmp p d [] e t = absurd (let z : ◌≡◌ {A = Option Doc} None (Some d) = e in cc)
any_newest cmp p d (x ∷ docs) e t = by (λ y s is. any_newest cmp p d docs (s ∙ ap Some is) t) (newest cmp docs) refl e
  where
    by : ((y : Doc) → newest cmp docs ≡ Some y → y ≡ d → list_any p docs ≡ true) → (o : Option Doc) → newest cmp docs ≡ o
        → of_both (newer cmp) (Some x) o ≡ Some d → (p x || list_any p docs) ≡ true
    by rest None s f = or_left (p x) (list_any p docs) (ap p (same_Some x d f) ∙ t)
    by rest (Some y) s f = picked_one p docs (cmp x y) x y d (same_Some (newer cmp x y) d f) t (rest y s)

any_find : {X : Type 0} (p : X → Bool) (xs more : List X) → list_any p xs ≡ true → find p (xs ++ more) ≡ find p xs
any_find p [] more e = absurd (let z : false ≡ true = e in cc)
any_find p (x ∷ xs) more e =
    elim (p x) as (λ b. (b || list_any p xs) ≡ true → cond b (Some x) (find p (xs ++ more)) ≡ cond b (Some x) (find p xs)) [
      | true ↦ λ f. refl
      | false ↦ λ f. any_find p xs more f
    ] e

-- a document whose name makes the row has that name
same_name : (index shard seq : ℕ) (d : Doc) → d.index ≡ index → d.shard ≡ shard → d.seq ≡ seq → is_named index shard seq d ≡ true
same_name index shard seq d i s q =
    subst (λ x. is_named x shard seq d ≡ true) i
    (subst (λ x. is_named d.index x seq d ≡ true) s
    (subst (λ x. is_named d.index d.shard x d ≡ true) q
    (λ j. eq-eqb d.index d.index refl j && (eq-eqb d.shard d.shard refl j && eq-eqb d.seq d.seq refl j))))

named : (k j : Key) (index shard seq : ℕ) (o : Option Doc) → option_map (row_from k) (option_map name_of o) ≡ Some (row.Latest j index shard seq)
    → (d : Doc) × ((o ≡ Some d) × (is_named index shard seq d ≡ true))
named k j index shard seq None e = absurd (let z : ◌≡◌ {A = Option Row} None (Some (row.Latest j index shard seq)) = e in cc)
named k j index shard seq (Some d) e =
    let f : ◌≡◌ {A = Option Row} (Some (row.Latest k d.index d.shard d.seq)) (Some (row.Latest j index shard seq)) = e in
    let i : d.index ≡ index = cc in
    let s : d.shard ≡ shard = cc in
    let q : d.seq ≡ seq = cc in
    (d, (refl, same_name index shard seq d i s q))

-- the document of a latest row is found among those that counted, and so among all
same_doc : (keeps counts : Doc → Bool) (cmp : Doc → Doc → Ordering) (docs more : List Doc) (k : Key) (r : Row)
    → option_map (row_from k) (option_map name_of (newest cmp (filter keeps (filter counts docs)))) ≡ Some r → named_doc (docs ++ more) r ≡ named_doc docs r
same_doc keeps counts cmp docs more k (row.Pivot j values) e = refl
same_doc keeps counts cmp docs more k (row.Latest j index shard seq) e =
    let d = named k j index shard seq (newest cmp (filter keeps (filter counts docs))) e in
    let one = any_newest cmp (is_named index shard seq) d.0 (filter keeps (filter counts docs)) d.1.0 d.1.1 in
    any_find (is_named index shard seq) docs more
    (any_filter (is_named index shard seq) counts docs (any_filter (is_named index shard seq) keeps (filter counts docs) one))

steady_by : (sources : List ℕ) (keeps counts : Doc → Bool) (o : Option Retention) (s : Shape) (docs more : List Doc) (k : Key) (r : Row)
    → option_map (row_from k) (content_by sources s (filter keeps (filter counts docs))) ≡ Some r → retained_by o s (docs ++ more) r ≡ retained_by o s docs r
steady_by sources keeps counts None s docs more k r e = refl
steady_by sources keeps counts (Some retention) (shape.Pivot groups aggs) docs more k r e = refl
steady_by sources keeps counts (Some retention) (shape.Latest unique_key sort) docs more k r e =
    ap (λ o. option_and_then date_of (option_and_then (λ d. value_of d retention.field) o)) (same_doc keeps counts (age_cmp sources sort) docs more k r e)

pub configured_is_steady : (sources : List ℕ) (c : Config) → IsSteady (meaning sources c)
unfolding retained
configured_is_steady sources c docs more bound k r e =
    steady_by sources (has_key (meaning sources c) k) (counts (meaning sources c) bound) c.retention c.shape docs more k r e
