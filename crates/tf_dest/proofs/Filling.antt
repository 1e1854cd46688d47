-- A row that is put into its slot.
use Rattle.std.proofs.Math.Seq.{drop-cons}
use Rattle.std.proofs.Common.{◌≡◌, ℕ, zero, suc, ◌+◌, ◌<◌, ◌≤◌, drop, get_or, add-one, Bool, true, false, cond, List, [], ◌∷◌, length, Option, Some, None, arith, refl, sym, ap, ◌∙◌, subst}
use Rattle.std.specs.Prelude.{⊤, IsSome, IsTrue, ◌||◌, if◌then◌else◌}
use Rattle.std.specs.List.{AllByRecursion}
use Rattle.std.specs.List.Sorted.{IsStrictlySortedBy}
use Rattle.std.specs.Map.{keys_of, lookup}
use Rattle.std.specs.BTreeMap.{insert_entry, is_at}
use Rattle.std.specs.Ordering.{is_eq, match_ordering}
use Rattle.std.specs.Option.{is_some}
use Rattle.std.specs.declared.cmp.Ordering.TheVariants.{Less, Equal, Greater}
use Rattle.tf_model.specs.declared.value.Key.{Key}
use Rattle.tf_model.specs.Order.{key_cmp}
use Rattle.tf_history.proofs.Keys.{keys_exact, keys_total}
use Rattle.tf_history.specs.Meaning.{row_key}
use Rattle.tf_dest.specs.declared.held.Held.{Held}
use Rattle.tf_dest.specs.declared.held.Slot.{Slot}
use Rattle.tf_dest.specs.declared.held.Shown.{Shown}
use Rattle.tf_dest.specs.declared.held.Shown.TheVariants as shown
use Rattle.tf_dest.specs.Slots.{held_in, held_of, held_at, row_of, is_room}
use Rattle.tf_dest.specs.Tables.{has_place, held_keys, put, key_of, KeepsPlaces, HavePlaces}

abbrev Entries : Type 0
Entries = List (Key × Option Slot)

-- the key of a row in a slot
pub key_row : (k : Key) (s : Shown) → row_key (row_of k s) ≡ k
key_row k (shown.Pivot values) = refl
key_row k (shown.Latest index shard seq) = refl

-- keys that ascend, in a form that computes
abbrev pub IsBelowAll : Key → Entries → Type 0
IsBelowAll k es = AllByRecursion (λ (j : Key). key_cmp k j ≡ Less) (keys_of es)

abbrev pub IsUp : Entries → Type 0
IsUp [] = ⊤
IsUp (e ∷ es) = IsBelowAll e.0 es × IsUp es

pub is_up : (es : Entries) → IsStrictlySortedBy key_cmp (keys_of es) → IsUp es
unfolding IsStrictlySortedBy
is_up [] h = tt
is_up (e ∷ es) h = (h.0, is_up es h.1)

pub below_more : (j k : Key) (es : Entries) → key_cmp j k ≡ Less → IsBelowAll k es → IsBelowAll j es
below_more j k [] l h = tt
below_more j k (e ∷ es) l h = (keys_total.trans j k e.0 l h.0, below_more j k es l h.1)

-- a row below all goes first
put_first : (h : Held) (es : Entries) → IsBelowAll (key_of h) es → put h (held_in es) ≡ h ∷ held_in es
put_first h [] b = refl
put_first h ((j, None) ∷ es) b = put_first h es b.1
put_first h ((j, Some s) ∷ es) b =
    ap (λ o. match_ordering o (h ∷ held_of j s ∷ held_in es) (h ∷ held_in es) (held_of j s ∷ put h (held_in es))) (ap (key_cmp (key_of h)) (key_row j s.shown) ∙ b.0)

pub no_place : (k : Key) (es : Entries) → IsBelowAll k es → lookup (is_at (key_cmp k)) es ≡ None
no_place k [] b = refl
no_place k (e ∷ es) b = ap (λ o. cond (is_eq o) (Some e.1) (lookup (is_at (key_cmp k)) es)) b.0 ∙ no_place k es b.1

-- whether a key has a slot
pub place_there : (k : Key) (es : Entries) → is_some (lookup (is_at (key_cmp k)) es) ≡ has_place (keys_of es) k
place_there k [] = refl
place_there k (e ∷ es) =
    elim (is_eq (key_cmp k e.0)) as (λ b. is_some (cond b (Some e.1) (lookup (is_at (key_cmp k)) es)) ≡ (b || has_place (keys_of es) k)) [
      | true ↦ refl
      | false ↦ place_there k es
    ]

put_at_later : (h g : Held) (held : List Held) → key_cmp (key_of h) (key_of g) ≡ Greater → put h (g ∷ held) ≡ g ∷ put h held
put_at_later h g held e = ap (λ o. match_ordering o (h ∷ g ∷ held) (h ∷ held) (g ∷ put h held)) e

pub fills : (k : Key) (s : Slot) (es : Entries) → IsUp es → held_in (insert_entry key_cmp es k (Some s)) ≡ put (held_of k s) (held_in es)
fills k s [] up = refl
fills k s (e ∷ es) up =
    elim (key_cmp k e.0) as (λ r. key_cmp k e.0 ≡ r → held_in (match_ordering r ((k, Some s) ∷ e ∷ es) ((e.0, Some s) ∷ es) (e ∷ insert_entry key_cmp es k (Some s))) ≡ put (held_of k s) (held_in (e ∷ es))) [
      | Less ↦ λ l. sym (put_first (held_of k s) (e ∷ es) (subst (λ j. IsBelowAll j (e ∷ es)) (sym (key_row k s.shown)) (l, below_more k e.0 es l up.0)))
      | Equal ↦ λ l. fills_same k s e.0 e.1 es l up.0
      | Greater ↦ λ l. fills_later k s e.0 e.1 es l (fills k s es up.1)
    ] refl
  where
    fills_same : (k : Key) (s : Slot) (j : Key) (o : Option Slot) (es : Entries) → key_cmp k j ≡ Equal → IsBelowAll j es → held_of j s ∷ held_in es ≡ put (held_of k s) (held_at j o (held_in es))
    fills_same k s j None es e b =
        let same : k ≡ j = keys_exact k j e in
        ap (λ i. held_of i s ∷ held_in es) (sym same) ∙ sym (put_first (held_of k s) es (subst (λ i. IsBelowAll i es) (sym same ∙ sym (key_row k s.shown)) b))
    fills_same k s j (Some t) es e b =
        ap (λ i. held_of i s ∷ held_in es) (sym (keys_exact k j e))
        ∙ sym (ap (λ o. match_ordering o (held_of k s ∷ held_of j t ∷ held_in es) (held_of k s ∷ held_in es) (held_of j t ∷ put (held_of k s) (held_in es))) (ap (λ i. key_cmp i (key_of (held_of j t))) (key_row k s.shown) ∙ ap (key_cmp k) (key_row j t.shown) ∙ e))

    fills_later : (k : Key) (s : Slot) (j : Key) (o : Option Slot) (es : Entries) → key_cmp k j ≡ Greater → held_in (insert_entry key_cmp es k (Some s)) ≡ put (held_of k s) (held_in es) → held_at j o (held_in (insert_entry key_cmp es k (Some s))) ≡ put (held_of k s) (held_at j o (held_in es))
    fills_later k s j None es e h = h
    fills_later k s j (Some t) es e h =
        ap (λ xs. held_of j t ∷ xs) h ∙ sym (put_at_later (held_of k s) (held_of j t) (held_in es) (ap (λ i. key_cmp i (key_of (held_of j t))) (key_row k s.shown) ∙ ap (key_cmp k) (key_row j t.shown) ∙ e))

-- how many rows there are then
pub fills_count : (k : Key) (s : Slot) (es : Entries) (o : Option Slot) → IsUp es → lookup (is_at (key_cmp k)) es ≡ Some o
    → length (held_in (insert_entry key_cmp es k (Some s))) ≡ length (held_in es) + (if is_room (Some o) then 1 else 0)
fills_count k s [] o up p = absurd (let z : None ≡ Some o = p in cc)
fills_count k s (e ∷ es) o up p =
    elim (key_cmp k e.0) as (λ r. key_cmp k e.0 ≡ r → cond (is_eq r) (Some e.1) (lookup (is_at (key_cmp k)) es) ≡ Some o → length (held_in (match_ordering r ((k, Some s) ∷ e ∷ es) ((e.0, Some s) ∷ es) (e ∷ insert_entry key_cmp es k (Some s)))) ≡ length (held_in (e ∷ es)) + (if is_room (Some o) then 1 else 0)) [
      | Less ↦ λ l q. absurd (let z : None ≡ Some o = sym (no_place k es (below_more k e.0 es l up.0)) ∙ q in cc)
      | Equal ↦ λ l q. subst (λ x. length (held_of e.0 s ∷ held_in es) ≡ length (held_in (e ∷ es)) + (if is_room x then 1 else 0)) q (count_same e.0 s e.1 es)
      | Greater ↦ λ l q. count_later e.0 e.1 (held_in (insert_entry key_cmp es k (Some s))) (held_in es) (if is_room (Some o) then 1 else 0) (fills_count k s es o up.1 q)
    ] refl p
  where
    count_same : (j : Key) (s : Slot) (o : Option Slot) (es : Entries) → length (held_of j s ∷ held_in es) ≡ length (held_at j o (held_in es)) + (if is_room (Some o) then 1 else 0)
    count_same j s None es = omega arith
    count_same j s (Some t) es = omega arith

    count_later : (j : Key) (o : Option Slot) (xs ys : List Held) (n : ℕ) → length xs ≡ length ys + n → length (held_at j o xs) ≡ length (held_at j o ys) + n
    count_later j None xs ys n h = h
    count_later j (Some t) xs ys n h = omega (arith, h)

-- room without a row
pub blanks : (k : Key) (es : Entries) → lookup (is_at (key_cmp k)) es ≡ None → held_in (insert_entry key_cmp es k None) ≡ held_in es
blanks k [] p = refl
blanks k (e ∷ es) p =
    elim (key_cmp k e.0) as (λ r. cond (is_eq r) (Some e.1) (lookup (is_at (key_cmp k)) es) ≡ None → held_in (match_ordering r ((k, None) ∷ e ∷ es) ((e.0, None) ∷ es) (e ∷ insert_entry key_cmp es k None)) ≡ held_in (e ∷ es)) [
      | Less ↦ λ q. refl
      | Equal ↦ λ q. absurd (let z : Some e.1 ≡ None = q in cc)
      | Greater ↦ λ q. ap (held_at e.0 e.1) (blanks k es q)
    ] p

pub places_kept : (k : Key) (o : Option Slot) (old new : Entries) → ((q : Key) → lookup (is_at (key_cmp q)) new ≡ cond (is_at (key_cmp k) q) (Some o) (lookup (is_at (key_cmp q)) old)) → KeepsPlaces (keys_of old) (keys_of new)
places_kept k o old new u q h =
    sym (place_there q new) ∙ (ap is_some (u q) ∙ (elim (is_at (key_cmp k) q) as (λ b. is_some (cond b (Some o) (lookup (is_at (key_cmp q)) old)) ≡ true) [
      | true ↦ refl
      | false ↦ place_there q old ∙ h
    ]))

pub placed : (k : Key) (o : Option Slot) (es : Entries) → lookup (is_at (key_cmp k)) es ≡ Some o → IsTrue (has_place (keys_of es) k)
placed k o es h = sym (place_there k es) ∙ ap is_some h

pub unplaced : {A : Type 0} → (k : Key) (es : Entries) → lookup (is_at (key_cmp k)) es ≡ None → IsTrue (has_place (keys_of es) k) → A
unplaced k es h p = absurd (let z : false ≡ true = sym (ap is_some h) ∙ (place_there k es ∙ p) in cc)

-- a slot that was there is filled
pub some_old : (k : Key) (es : Entries) (old : Option (Option Slot)) → old ≡ lookup (is_at (key_cmp k)) es → IsTrue (has_place (keys_of es) k) → IsSome old
some_old k es None e p = unplaced k es (sym e) p
some_old k es (Some o) e p = refl

pub fills_len : (k : Key) (s : Slot) (es new : Entries) (old : Option (Option Slot)) (b : Bool) → IsStrictlySortedBy key_cmp (keys_of es) → old ≡ lookup (is_at (key_cmp k)) es → IsTrue (has_place (keys_of es) k)
    → new ≡ insert_entry key_cmp es k (Some s) → b ≡ is_room old → length (held_in new) ≡ length (held_in es) + (if b then 1 else 0)
fills_len k s es new None b up e p i r = unplaced k es (sym e) p
fills_len k s es new (Some o) b up e p i r =
    ap (λ xs. length (held_in xs)) i ∙ (fills_count k s es o (is_up es up) (sym e) ∙ ap (λ x. length (held_in es) + (if x then 1 else 0)) (sym r))

pub absent_key : (k : Key) (es : Entries) → is_some (lookup (is_at (key_cmp k)) es) ≡ false → lookup (is_at (key_cmp k)) es ≡ None
absent_key k es h = none_of (lookup (is_at (key_cmp k)) es) h
  where
    none_of : (o : Option (Option Slot)) → is_some o ≡ false → o ≡ None
    none_of None h = refl
    none_of (Some x) h = absurd (let z : true ≡ false = h in cc)

-- where a key that is there is not behind the last, one behind it is not there
pub none_behind : (there low : Bool) → low ≡ true → (there ≡ true → low ≡ false) → false ≡ there
none_behind true low e f = absurd (let z : true ≡ false = sym e ∙ f refl in cc)
none_behind false low e f = refl

pub reserved_on : (page : List Held) (i : ℕ) (h : Held) (now new : List Key) → drop i page ≡ h ∷ drop (i + 1) page → KeepsPlaces now new → IsTrue (has_place new (key_of h))
    → ((places : List Key) → KeepsPlaces now places → HavePlaces places (held_keys (drop i page)) → HavePlaces places (held_keys page))
    → (places : List Key) → KeepsPlaces new places → HavePlaces places (held_keys (drop (i + 1) page)) → HavePlaces places (held_keys page)
reserved_on page i h now new e kept there f places more rest = f places (λ k p. more k (kept k p)) (subst (λ xs. HavePlaces places (held_keys xs)) (sym e) (more (key_of h) there, rest))

pub at_place : (page : List Held) (i : ℕ) (h : Held) → i < length page → h ≡ get_or page i h → drop i page ≡ h ∷ drop (i + 1) page
at_place page i h low e =
    subst (λ n. drop i page ≡ get_or page i h ∷ drop n page) (sym (add-one i)) (drop-cons page i h low) ∙ ap (λ (x : Held). x ∷ drop (i + 1) page) (sym e)

pub past_end : (page : List Held) (i : ℕ) (places : List Key) → length page ≤ i → HavePlaces places (held_keys (drop i page))
past_end [] zero places le = tt
past_end [] (suc i) places le = tt
past_end (h ∷ page) zero places le = absurd (omega (arith, le))
past_end (h ∷ page) (suc i) places le = past_end page i places (omega (arith, le))
