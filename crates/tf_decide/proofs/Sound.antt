-- What is known of the indices and of the next moment of a past of taken entries.
use Rattle.std.proofs.Common.{◌≡◌, ℕ, ℤ, pos, zero, suc, ◌+◌, ◌<◌, ◌≤◌, ◌≤ℤ◌, ◌^◌, Bool, true, false, cond, ◌&&◌, ◌||◌, List, [], ◌∷◌, ◌++◌, length, Option, Some, None, arith, refl, sym, subst, length-append}
use Rattle.std.specs.Prelude.{IfSome, int_le, nat_le, reverse, slice_get}
use Rattle.std.specs.List.{AllByRecursion, list_all, list_any}
use Rattle.std.specs.Str.{bytes_eq}
use Rattle.std.proofs.lemmas.Int.{ints}
use Rattle.std.proofs.lemmas.Bool.{and_parts}
use Rattle.std.proofs.lemmas.List.Quantifiers.{position-Some}
use Rattle.std.proofs.lemmas.Slice.Eq.{bytes_eq-Decides}
use Rattle.tf_model.specs.declared.entry.Entry.{Entry}
use Rattle.tf_model.specs.declared.entry.Kind.{Kind}
use Rattle.tf_model.specs.declared.entry.Kind.TheVariants as kind
use Rattle.tf_model.specs.declared.query.FieldType.{FieldType}
use Rattle.tf_model.specs.Conditions.{IsSpan, greatest_date}
use Rattle.tf_model.specs.Names.{is_field_path, parts_have_bytes}
use Rattle.tf_history.specs.Catalogue.{SourceIndex, catalogue, makes, number_of}
use Rattle.tf_history.specs.LegalEntries.{FitsKind, MayIndex, has_date, is_date}
use Rattle.tf_history.specs.Legality.{IsNotBefore}
use Rattle.tf_core.specs.Legal.{IsTakenPast, IsTakenHistory, read, reading}
use Rattle.tf_core.specs.Lookups.{indices_in}
use Rattle.tf_core.specs.Moves.{clamped, last_ms_in, later, moment_after}

-- ---- indices

-- from 1 to 16 shards, and a stamp of at most 255 bytes
pub record IsSound (s : SourceIndex) : Type 0 where
  pub shards : (1 ≤ s.shards) × (s.shards ≤ 16)
  pub stamp : IfSome s.stamp (λ field. length field ≤ 255)

pub path_short : (path : List ℕ) → is_field_path path ≡ true → length path ≤ 255
unfolding is_field_path
path_short path e = le_of (length path) (and_parts (nat_le (length path) 255) (parts_have_bytes false path) e).0
  where
    le_of : (n : ℕ) → nat_le n 255 ≡ true → n ≤ 255
    le_of n e = grind arith

named_short : (field : List ℕ) (fields : List (List ℕ × FieldType)) → list_all (λ (f : List ℕ × FieldType). is_field_path f.0) fields ≡ true
    → list_any (λ (f : List ℕ × FieldType). bytes_eq field f.0 && is_date f.1) fields ≡ true → length field ≤ 255
named_short field [] all any = absurd (let z : false ≡ true = any in cc)
named_short field (f ∷ fields) all any =
    let parts = and_parts (is_field_path f.0) (list_all (λ (f : List ℕ × FieldType). is_field_path f.0) fields) all in
    by_first (bytes_eq field f.0 && is_date f.1) refl any (named_short field fields parts.1) parts.0
  where
    by_first : (b : Bool) → (bytes_eq field f.0 && is_date f.1) ≡ b
        → ((b || list_any (λ (f : List ℕ × FieldType). bytes_eq field f.0 && is_date f.1) fields) ≡ true)
        → (list_any (λ (f : List ℕ × FieldType). bytes_eq field f.0 && is_date f.1) fields ≡ true → length field ≤ 255)
        → is_field_path f.0 ≡ true → length field ≤ 255
    by_first true e any rest path =
        subst (λ name. length name ≤ 255) (sym ((bytes_eq-Decides field f.0).0 (and_parts (bytes_eq field f.0) (is_date f.1) e).0)) (path_short f.0 path)
    by_first false e any rest path = rest any

stamp_short : (past : List Entry) (s : SourceIndex) (stamp : Option (List ℕ)) → MayIndex reading past s → IfSome stamp (λ field. has_date s.mapping field ≡ true) → IfSome stamp (λ field. length field ≤ 255)
unfolding reading
stamp_short past s None may has = tt
stamp_short past s (Some field) may has = named_short field s.mapping.fields may.field_names has

sound : (past : List Entry) (s : SourceIndex) → MayIndex reading past s → IsSound s
sound past s may = record { shards = may.shards; stamp = stamp_short past s s.stamp may may.stamp }

makes_sound : (past : List Entry) (moment : ℤ) (k : Kind) → FitsKind reading past moment k → AllByRecursion IsSound (makes k)
makes_sound past moment (kind.Index name shards mapping stamp quick) fits = (sound past (record { name = name; shards = shards; mapping = mapping; stamp = stamp; quick = quick }) fits, tt)
makes_sound past moment (kind.Write index shard seq id tree) fits = tt
makes_sound past moment (kind.Put id config) fits = tt
makes_sound past moment (kind.Delete id) fits = tt
makes_sound past moment (kind.Reset id) fits = tt
makes_sound past moment (kind.Start id) fits = tt
makes_sound past moment (kind.StopAsked id wait) fits = tt
makes_sound past moment (kind.Stopped id) fits = tt
makes_sound past moment (kind.Schedule id) fits = tt
makes_sound past moment (kind.Fail id n key name value) fits = tt
makes_sound past moment (kind.Begin id n bound) fits = tt
makes_sound past moment (kind.Page id n rows) fits = tt
makes_sound past moment (kind.Finish id n) fits = tt

all_both : {X : Type 0} (P : X → Type 0) (xs ys : List X) → AllByRecursion P xs → AllByRecursion P ys → AllByRecursion P (xs ++ ys)
all_both P [] ys h g = g
all_both P (x ∷ xs) ys h g = (h.0, all_both P xs ys h.1 g)

pub indices_sound : (past : List Entry) → IsTakenPast past → AllByRecursion IsSound (catalogue past)
indices_sound [] taken = tt
indices_sound (e ∷ past) taken = all_both IsSound (catalogue past) (makes e.kind) (indices_sound past taken.0) (makes_sound past e.at_ms e.kind taken.1.legal.fits)

at_place : {X : Type 0} (P : X → Type 0) (xs : List X) (n : ℕ) (x : X) → AllByRecursion P xs → slice_get xs n ≡ Some x → P x
at_place P [] n x h e = absurd (let z : ◌≡◌ {A = Option _} None (Some x) = e in cc)
at_place P (y ∷ xs) zero x h e = let same : y ≡ x = cc in subst P same h.0
at_place P (y ∷ xs) (suc n) x h e = at_place P xs n x h.1 e

pub index_sound : (past : List Entry) (n : ℕ) (s : SourceIndex) → IsTakenPast past → slice_get (catalogue past) n ≡ Some s → IsSound s
index_sound past n s taken e = at_place IsSound (catalogue past) n s (indices_sound past taken) e

few_made : (past : List Entry) (moment : ℤ) (k : Kind) → length (catalogue past) ≤ 64 → FitsKind reading past moment k → length (catalogue past) + length (makes k) ≤ 64
few_made past moment (kind.Index name shards mapping stamp quick) few fits = let less : length (catalogue past) < 64 = fits.few in omega (arith, less)
few_made past moment (kind.Write index shard seq id tree) few fits = omega (arith, few)
few_made past moment (kind.Put id config) few fits = omega (arith, few)
few_made past moment (kind.Delete id) few fits = omega (arith, few)
few_made past moment (kind.Reset id) few fits = omega (arith, few)
few_made past moment (kind.Start id) few fits = omega (arith, few)
few_made past moment (kind.StopAsked id wait) few fits = omega (arith, few)
few_made past moment (kind.Stopped id) few fits = omega (arith, few)
few_made past moment (kind.Schedule id) few fits = omega (arith, few)
few_made past moment (kind.Fail id n key name value) few fits = omega (arith, few)
few_made past moment (kind.Begin id n bound) few fits = omega (arith, few)
few_made past moment (kind.Page id n rows) few fits = omega (arith, few)
few_made past moment (kind.Finish id n) few fits = omega (arith, few)

pub few_indices : (past : List Entry) → IsTakenPast past → length (catalogue past) ≤ 64
few_indices [] taken = omega arith
few_indices (e ∷ past) taken =
    let few = few_made past e.at_ms e.kind (few_indices past taken.0) taken.1.legal.fits in
    omega (arith, few, length-append (catalogue past) (makes e.kind))

by_place : (name : List ℕ) (indices : List SourceIndex) (number : ℕ) → length indices ≤ 64 → number_of name indices ≡ Some number → number < 2 ^ 32
by_place name [] number few is = absurd (cc)
by_place name (s ∷ indices) number few is = omega (arith, few, (position-Some (λ (i : SourceIndex). bytes_eq name i.name) (s ∷ indices) number s is).0)

pub number_fits : (history : List Entry) (name : List ℕ) (number : ℕ) → IsTakenHistory history → number_of name (indices_in history) ≡ Some number → number < 2 ^ 32
number_fits history name number taken is = by_place name (indices_in history) number (few_indices (reverse history) taken) is

-- ---- moments
clamped_span : (given : ℤ) → IsSpan (clamped given)
clamped_span given = by_low (int_le given (pos 0)) refl
  where
    by_high : (b : Bool) → int_le greatest_date given ≡ b → int_le given (pos 0) ≡ false → IsSpan (cond b greatest_date given)
    by_high true e low = (omega (arith, ints), omega (arith, ints))
    by_high false e low = (grind (arith, ints), grind (arith, ints))

    by_low : (b : Bool) → int_le given (pos 0) ≡ b → IsSpan (cond b (pos 0) (cond (int_le greatest_date given) greatest_date given))
    by_low true e = (omega (arith, ints), omega (arith, ints))
    by_low false e = by_high (int_le greatest_date given) refl e

later_span : (last given : ℤ) → IsSpan last → IsSpan given → IsSpan (later last given)
later_span last given h g = elim (int_le last given) as (λ b. IsSpan (cond b given last)) [ true ↦ g | false ↦ h ]

later_is : (last given : ℤ) → last ≤ℤ later last given
later_is last given = by_less (int_le last given) refl
  where
    by_less : (b : Bool) → int_le last given ≡ b → last ≤ℤ cond b given last
    by_less true e = grind (arith, ints)
    by_less false e = omega (arith, ints)

last_span : (past : List Entry) → IsTakenPast past → IsSpan (last_ms_in past)
last_span [] taken = (omega (arith, ints), omega (arith, ints))
last_span (e ∷ past) taken = taken.1.legal.moment

-- the next moment is in range, and not before the newest entry
pub moment_span : (past : List Entry) (given : ℤ) → IsTakenPast past → IsSpan (moment_after past given)
moment_span past given taken = later_span (last_ms_in past) (clamped given) (last_span past taken) (clamped_span given)

pub moment_later : (past : List Entry) (given : ℤ) → IsNotBefore (moment_after past given) (read past)
moment_later [] given = tt
moment_later (e ∷ past) given = later_is e.at_ms (clamped given)
