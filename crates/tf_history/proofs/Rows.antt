-- Facts on rows in the order of their keys.
use Rattle.std.proofs.Common.{◌≡◌, Bool, true, false, cond, ◌||◌, List, [], ◌∷◌, map, Option, Some, None, refl, sym, ap, ◌∙◌, subst}
use Rattle.std.specs.Prelude.{filter_map}
use Rattle.std.specs.List.{filter, cons_option}
use Rattle.std.specs.Ordering.{is_eq}
use Rattle.std.specs.declared.cmp.Ordering.{Ordering}
use Rattle.std.specs.declared.cmp.Ordering.TheVariants.{Less, Equal, Greater}
use Rattle.tf_history.specs.Grouping.{row_at, keep}
use Rattle.tf_model.specs.Keys.{is_among}
use Rattle.tf_history.specs.Lives.{put_row, put_rows, last_key}
use Rattle.tf_history.proofs.Keys.{IsBelowAll, IsAscending, keys_exact, cmp_itself, cmp_back, ascending_add, below_trans, last_of, equal_from}
use Rattle.tf_history.specs.Meaning.{row_key}
use Rattle.tf_model.specs.Order.{key_cmp}
use Rattle.tf_model.specs.declared.entry.Row.{Row}
use Rattle.tf_model.specs.declared.value.Key.{Key}
use Rattle.std.specs.Ordering.{match_ordering}
use Rattle.std.specs.BTreeSet.{insert_key}

abbrev pub keys_in : List Row → List Key
keys_in rows = map row_key rows

pub keys-put_row : (r : Row) (rows : List Row) → keys_in (put_row r rows) ≡ insert_key key_cmp (keys_in rows) (row_key r)
keys-put_row r [] = refl
keys-put_row r (s ∷ rows) =
    elim (key_cmp (row_key r) (row_key s)) as (λ o. key_cmp (row_key r) (row_key s) ≡ o → keys_in (match_ordering o (r ∷ s ∷ rows) (r ∷ rows) (s ∷ put_row r rows)) ≡ match_ordering o ((row_key r) ∷ (row_key s) ∷ keys_in rows) ((row_key s) ∷ keys_in rows) ((row_key s) ∷ insert_key key_cmp (keys_in rows) (row_key r))) [
      | Less ↦ λ e. refl
      | Equal ↦ λ e. ap (λ k. k ∷ keys_in rows) (keys_exact (row_key r) (row_key s) e)
      | Greater ↦ λ e. ap (λ ks. (row_key s) ∷ ks) (keys-put_row r rows)
    ] refl

pub ascending-put_row : (r : Row) (rows : List Row) → IsAscending (keys_in rows) → IsAscending (keys_in (put_row r rows))
ascending-put_row r rows h = subst IsAscending (sym (keys-put_row r rows)) (ascending_add (row_key r) (keys_in rows) h)

pub ascending-put_rows : (page rows : List Row) → IsAscending (keys_in rows) → IsAscending (keys_in (put_rows page rows))
ascending-put_rows [] rows h = h
ascending-put_rows (r ∷ page) rows h = ascending-put_rows page (put_row r rows) (ascending-put_row r rows h)

-- two tests that do not both hold
apart : {A : Type 0} (a b : Bool) (x y z : A) → (a ≡ true → b ≡ true → ⊥) → cond a x (cond b y z) ≡ cond b y (cond a x z)
apart true true x y z h = absurd (h refl refl)
apart true false x y z h = refl
apart false b x y z h = refl

twice : {A : Type 0} (b : Bool) (x y z : A) → cond b x z ≡ cond b x (cond b y z)
twice true x y z = refl
twice false x y z = refl

pub row_at-put_row : (k : Key) (r : Row) (rows : List Row) → row_at k (put_row r rows) ≡ cond (is_eq (key_cmp k (row_key r))) (Some r) (row_at k rows)
row_at-put_row k r [] = refl
row_at-put_row k r (s ∷ rows) =
    elim (key_cmp (row_key r) (row_key s)) as (λ o. key_cmp (row_key r) (row_key s) ≡ o → row_at k (match_ordering o (r ∷ s ∷ rows) (r ∷ rows) (s ∷ put_row r rows)) ≡ cond (is_eq (key_cmp k (row_key r))) (Some r) (cond (is_eq (key_cmp k (row_key s))) (Some s) (row_at k rows))) [
      | Less ↦ λ e. refl
      | Equal ↦ λ e. subst (λ j. cond (is_eq (key_cmp k (row_key r))) (Some r) (row_at k rows) ≡ cond (is_eq (key_cmp k (row_key r))) (Some r) (cond (is_eq (key_cmp k j)) (Some s) (row_at k rows))) (keys_exact (row_key r) (row_key s) e) (twice (is_eq (key_cmp k (row_key r))) (Some r) (Some s) (row_at k rows))
      | Greater ↦ λ e. ap (λ o. cond (is_eq (key_cmp k (row_key s))) (Some s) o) (row_at-put_row k r rows)
          ∙ apart (is_eq (key_cmp k (row_key s))) (is_eq (key_cmp k (row_key r))) (Some s) (Some r) (row_at k rows) (λ p q.
          let a : k ≡ row_key s = keys_exact k (row_key s) (equal_from _ p) in
          let b : k ≡ row_key r = keys_exact k (row_key r) (equal_from _ q) in
          let z : key_cmp (row_key r) (row_key s) ≡ Equal = subst (λ x. key_cmp x (row_key s) ≡ Equal) b (equal_from _ p) in
          cc)
    ] refl

-- the rows of a page, as f makes them, over what was there
pub row_at-put_rows : (f : Key → Option Row) → ((j : Key) (r : Row) → f j ≡ Some r → (row_key r) ≡ j)
    → (k : Key) (page : List Row) (keys : List Key) (rows : List Row) → map Some page ≡ map f keys
    → row_at k (put_rows page rows) ≡ cond (is_among keys k) (f k) (row_at k rows)
row_at-put_rows f keyed k [] [] rows e = refl
row_at-put_rows f keyed k [] (j ∷ keys) rows e = absurd (let g : ◌≡◌ {A = List (Option Row)} [] (f j ∷ map f keys) = e in cc)
row_at-put_rows f keyed k (r ∷ page) [] rows e = absurd (let g : ◌≡◌ {A = List (Option Row)} (Some r ∷ map Some page) [] = e in cc)
row_at-put_rows f keyed k (r ∷ page) (j ∷ keys) rows e =
    let g : ◌≡◌ {A = List (Option Row)} (Some r ∷ map Some page) (f j ∷ map f keys) = e in
    let head : f j ≡ Some r = cc in
    let rest : map Some page ≡ map f keys = cc in
    let same : (row_key r) ≡ j = keyed j r head in
    row_at-put_rows f keyed k page keys (put_row r rows) rest
    ∙ (ap (λ o. cond (is_among keys k) (f k) o) (row_at-put_row k r rows) ∙ subst (λ x. cond (is_among keys k) (f k) (cond (is_eq (key_cmp k x)) (Some r) (row_at k rows)) ≡ cond (is_eq (key_cmp k j) || is_among keys k) (f k) (row_at k rows)) (sym same) (merge head))
  where
    pick : (b d : Bool) (x y : Option Row) → (b ≡ true → x ≡ y) → (z : Option Row) → cond d y (cond b x z) ≡ cond (b || d) y z
    pick true true x y h z = refl
    pick true false x y h z = h refl
    pick false d x y h z = refl

    merge : f j ≡ Some r
        → cond (is_among keys k) (f k) (cond (is_eq (key_cmp k j)) (Some r) (row_at k rows)) ≡ cond (is_eq (key_cmp k j) || is_among keys k) (f k) (row_at k rows)
    merge head = pick (is_eq (key_cmp k j)) (is_among keys k) (Some r) (f k) (λ b. sym head ∙ ap f (sym (keys_exact k j (equal_from _ b)))) (row_at k rows)

-- a key below all of a list's keys is none of them
row_at_below : (k : Key) (rows : List Row) → IsBelowAll k (keys_in rows) → row_at k rows ≡ None
row_at_below k [] h = refl
row_at_below k (r ∷ rows) h = ap (λ o. cond (is_eq o) (Some r) (row_at k rows)) h.0 ∙ row_at_below k rows h.1

below_keep : (p : Row → Bool) (k : Key) (rows : List Row) → IsBelowAll k (keys_in rows) → IsBelowAll k (keys_in (filter p rows))
below_keep p k [] h = tt
below_keep p k (r ∷ rows) h =
    elim (p r) as (λ b. IsBelowAll k (keys_in (cond b (r ∷ filter p rows) (filter p rows)))) [
      | true ↦ (h.0, below_keep p k rows h.1)
      | false ↦ below_keep p k rows h.1
    ]

pub ascending_keep : (p : Row → Bool) (rows : List Row) → IsAscending (keys_in rows) → IsAscending (keys_in (filter p rows))
ascending_keep p [] h = tt
ascending_keep p (r ∷ rows) h =
    elim (p r) as (λ b. IsAscending (keys_in (cond b (r ∷ filter p rows) (filter p rows)))) [
      | true ↦ (below_keep p (row_key r) rows h.0, ascending_keep p rows h.1)
      | false ↦ ascending_keep p rows h.1
    ]

pub row_at_keep : (p : Row → Bool) (k : Key) (rows : List Row) → IsAscending (keys_in rows) → row_at k (filter p rows) ≡ keep p (row_at k rows)
row_at_keep p k [] h = refl
row_at_keep p k (r ∷ rows) h =
    elim (is_eq (key_cmp k (row_key r))) as (λ b. is_eq (key_cmp k (row_key r)) ≡ b → row_at k (cond (p r) (r ∷ filter p rows) (filter p rows)) ≡ keep p (cond b (Some r) (row_at k rows))) [
      | true ↦ λ e. here e
      | false ↦ λ e. there e (row_at_keep p k rows h.1)
    ] refl
  where
    here : is_eq (key_cmp k (row_key r)) ≡ true → row_at k (cond (p r) (r ∷ filter p rows) (filter p rows)) ≡ cond (p r) (Some r) None
    here e = elim (p r) as (λ b. row_at k (cond b (r ∷ filter p rows) (filter p rows)) ≡ cond b (Some r) None) [
      | true ↦ ap (λ b. cond b (Some r) (row_at k (filter p rows))) e
      | false ↦ row_at_below k (filter p rows) (subst (λ x. IsBelowAll x (keys_in (filter p rows))) (sym (keys_exact k (row_key r) (equal_from _ e))) (below_keep p (row_key r) rows h.0))
    ]

    there : is_eq (key_cmp k (row_key r)) ≡ false → row_at k (filter p rows) ≡ keep p (row_at k rows)
        → row_at k (cond (p r) (r ∷ filter p rows) (filter p rows)) ≡ keep p (row_at k rows)
    there e rest = elim (p r) as (λ b. row_at k (cond b (r ∷ filter p rows) (filter p rows)) ≡ keep p (row_at k rows)) [
      | true ↦ ap (λ b. cond b (Some r) (row_at k (filter p rows))) e ∙ rest
      | false ↦ rest
    ]

-- two lists of rows that ascend and answer alike are one
pub same_rows : (xs ys : List Row) → IsAscending (keys_in xs) → IsAscending (keys_in ys) → ((k : Key) → row_at k xs ≡ row_at k ys) → xs ≡ ys
same_rows [] [] h g e = refl
same_rows [] (s ∷ ys) h g e = absurd (let f = e (row_key s) in let z : row_at (row_key s) (s ∷ ys) ≡ Some s = ap (λ o. cond (is_eq o) (Some s) (row_at (row_key s) ys)) (cmp_itself (row_key s)) in let w : ◌≡◌ {A = Option Row} None (Some s) = e (row_key s) ∙ z in cc)
same_rows (r ∷ xs) [] h g e = absurd (let z : row_at (row_key r) (r ∷ xs) ≡ Some r = ap (λ o. cond (is_eq o) (Some r) (row_at (row_key r) xs)) (cmp_itself (row_key r)) in let w : ◌≡◌ {A = Option Row} None (Some r) = sym (e (row_key r)) ∙ z in cc)
same_rows (r ∷ xs) (s ∷ ys) h g e =
    let first : r ≡ s = heads (key_cmp (row_key r) (row_key s)) refl in
    ap (λ (x : Row). x ∷ xs) first ∙ ap (λ zs. s ∷ zs) (same_rows xs ys h.1 g.1 (λ k. tails first k))
  where
    own : (x : Row) (zs : List Row) → row_at (row_key x) (x ∷ zs) ≡ Some x
    own x zs = ap (λ o. cond (is_eq o) (Some x) (row_at (row_key x) zs)) (cmp_itself (row_key x))

    heads : (o : Ordering) → key_cmp (row_key r) (row_key s) ≡ o → r ≡ s
    heads Less t = absurd (
        let z : ◌≡◌ {A = Option Row} (row_at (row_key r) (s ∷ ys)) None = row_at_below (row_key r) (s ∷ ys) (t, below_trans (row_key r) (row_key s) (keys_in ys) t g.0) in
        let w : ◌≡◌ {A = Option Row} (Some r) None = sym (own r xs) ∙ (e (row_key r) ∙ z) in cc)
    heads Equal t =
        let z : row_at (row_key r) (s ∷ ys) ≡ Some s = ap (λ o. cond (is_eq o) (Some s) (row_at (row_key r) ys)) t in
        let w : ◌≡◌ {A = Option Row} (Some r) (Some s) = sym (own r xs) ∙ (e (row_key r) ∙ z) in cc
    heads Greater t = absurd (
        let back : key_cmp (row_key s) (row_key r) ≡ Less = cmp_back (row_key r) (row_key s) Greater t in
        let z : ◌≡◌ {A = Option Row} (row_at (row_key s) (r ∷ xs)) None = row_at_below (row_key s) (r ∷ xs) (back, below_trans (row_key s) (row_key r) (keys_in xs) back h.0) in
        let w : ◌≡◌ {A = Option Row} (Some s) None = sym (own s ys) ∙ (sym (e (row_key s)) ∙ z) in cc)

    tails : r ≡ s → (k : Key) → row_at k xs ≡ row_at k ys
    tails first k =
        elim (is_eq (key_cmp k (row_key r))) as (λ b. is_eq (key_cmp k (row_key r)) ≡ b → row_at k xs ≡ row_at k ys) [
          | true ↦ λ t.
              let same : k ≡ row_key r = keys_exact k (row_key r) (equal_from _ t) in
              let also : k ≡ row_key s = same ∙ ap (row_key) first in
              row_at_below k xs (subst (λ x. IsBelowAll x (keys_in xs)) (sym same) h.0) ∙ sym (row_at_below k ys (subst (λ x. IsBelowAll x (keys_in ys)) (sym also) g.0))
          | false ↦ λ t.
              let mine : row_at k (r ∷ xs) ≡ row_at k xs = ap (λ b. cond b (Some r) (row_at k xs)) t in
              let other : is_eq (key_cmp k (row_key s)) ≡ false = subst (λ (x : Row). is_eq (key_cmp k (row_key x)) ≡ false) first t in
              let yours : row_at k (s ∷ ys) ≡ row_at k ys = ap (λ b. cond b (Some s) (row_at k ys)) other in
              sym mine ∙ (e k ∙ yours)
        ] refl

-- the rows that f makes of ascending keys
below_made : (f : Key → Option Row) → ((j : Key) (r : Row) → f j ≡ Some r → (row_key r) ≡ j) → (k : Key) (keys : List Key) → IsBelowAll k keys
    → IsBelowAll k (keys_in (filter_map f keys))
below_made f keyed k [] h = tt
below_made f keyed k (j ∷ keys) h =
    elim (f j) as (λ o. f j ≡ o → IsBelowAll k (keys_in (cons_option o (filter_map f keys)))) [
      | None ↦ λ e. below_made f keyed k keys h.1
      | Some r ↦ λ e. (subst (λ x. key_cmp k x ≡ Less) (sym (keyed j r e)) h.0, below_made f keyed k keys h.1)
    ] refl

pub ascending_made : (f : Key → Option Row) → ((j : Key) (r : Row) → f j ≡ Some r → (row_key r) ≡ j) → (keys : List Key) → IsAscending keys
    → IsAscending (keys_in (filter_map f keys))
ascending_made f keyed [] h = tt
ascending_made f keyed (j ∷ keys) h =
    elim (f j) as (λ o. f j ≡ o → IsAscending (keys_in (cons_option o (filter_map f keys)))) [
      | None ↦ λ e. ascending_made f keyed keys h.1
      | Some r ↦ λ e. (subst (λ x. IsBelowAll x (keys_in (filter_map f keys))) (sym (keyed j r e)) (below_made f keyed j keys h.0), ascending_made f keyed keys h.1)
    ] refl

pub row_at_made : (f : Key → Option Row) → ((j : Key) (r : Row) → f j ≡ Some r → (row_key r) ≡ j) → (k : Key) (keys : List Key) → IsAscending keys
    → row_at k (filter_map f keys) ≡ cond (is_among keys k) (f k) None
row_at_made f keyed k [] h = refl
row_at_made f keyed k (j ∷ keys) h =
    elim (is_eq (key_cmp k j)) as (λ b. is_eq (key_cmp k j) ≡ b → row_at k (cons_option (f j) (filter_map f keys)) ≡ cond (b || is_among keys k) (f k) None) [
      | true ↦ λ e. let same : k ≡ j = keys_exact k j (equal_from _ e) in subst (λ x. row_at x (cons_option (f j) (filter_map f keys)) ≡ f x) (sym same) (here (f j) refl)
      | false ↦ λ e. there e (f j) refl (row_at_made f keyed k keys h.1)
    ] refl
  where
    here : (o : Option Row) → f j ≡ o → row_at j (cons_option o (filter_map f keys)) ≡ f j
    here None t = row_at_below j (filter_map f keys) (below_made f keyed j keys h.0) ∙ sym t
    here (Some r) t = ap (λ o. cond (is_eq o) (Some r) (row_at j (filter_map f keys))) (subst (λ x. key_cmp j x ≡ Equal) (sym (keyed j r t)) (cmp_itself j)) ∙ sym t

    there : is_eq (key_cmp k j) ≡ false → (o : Option Row) → f j ≡ o → row_at k (filter_map f keys) ≡ cond (is_among keys k) (f k) None
        → row_at k (cons_option o (filter_map f keys)) ≡ cond (is_among keys k) (f k) None
    there e None t rest = rest
    there e (Some r) t rest = ap (λ b. cond b (Some r) (row_at k (filter_map f keys))) (subst (λ x. is_eq (key_cmp k x) ≡ false) (sym (keyed j r t)) e) ∙ rest

-- the keys of a page, as f makes its rows
pub keys_from : (f : Key → Option Row) → ((j : Key) (r : Row) → f j ≡ Some r → (row_key r) ≡ j) → (page : List Row) (keys : List Key)
    → map Some page ≡ map f keys → keys_in page ≡ keys
keys_from f keyed [] [] e = refl
keys_from f keyed [] (j ∷ keys) e = absurd (let g : ◌≡◌ {A = List (Option Row)} [] (f j ∷ map f keys) = e in cc)
keys_from f keyed (r ∷ page) [] e = absurd (let g : ◌≡◌ {A = List (Option Row)} (Some r ∷ map Some page) [] = e in cc)
keys_from f keyed (r ∷ page) (j ∷ keys) e =
    let g : ◌≡◌ {A = List (Option Row)} (Some r ∷ map Some page) (f j ∷ map f keys) = e in
    let head : f j ≡ Some r = cc in
    let rest : map Some page ≡ map f keys = cc in
    ap (λ k. k ∷ keys_in page) (keyed j r head) ∙ ap (λ ks. j ∷ ks) (keys_from f keyed page keys rest)

pub last_key-keys : (rows : List Row) → last_key rows ≡ last_of (keys_in rows)
last_key-keys [] = refl
last_key-keys (r ∷ []) = refl
last_key-keys (r ∷ s ∷ rows) = last_key-keys (s ∷ rows)
