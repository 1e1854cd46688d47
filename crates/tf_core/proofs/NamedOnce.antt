-- No two indices have one name.
use Rattle.std.proofs.Common.{◌≡◌, ℕ, zero, suc, Bool, true, false, List, [], ◌∷◌, ◌++◌, take, Option, Some, None, refl, subst, ◌∙◌}
use Rattle.std.specs.Prelude.{not, ◌||◌, if◌then◌else◌, slice_get}
use Rattle.std.specs.List.{AllByRecursion, list_any}
use Rattle.std.specs.Str.{bytes_eq}
use Rattle.std.proofs.lemmas.Option.{same_Some}
use Rattle.tf_config.specs.Catalogue.{mapping_named}
use Rattle.tf_history.specs.Catalogue.{SourceIndex}
use Rattle.tf_core.specs.Sources.{AreNamedOnce, catalogued}

-- ---- an index more
none_of_two : (a b : Bool) → (a || b) ≡ false → (a ≡ false) × (b ≡ false)
none_of_two false b e = (refl, e)
none_of_two true b e = absurd (let z : true ≡ false = e in cc)

pub new_name : (a b : Bool) → not (a || b) ≡ true → a ≡ false
new_name false b e = refl
new_name true b e = absurd (let z : false ≡ true = e in cc)

one_last : (P : SourceIndex → Type 0) (s : SourceIndex) (indices : List SourceIndex) → AllByRecursion P indices → P s → AllByRecursion P (indices ++ s ∷ [])
one_last P s [] all p = (p, tt)
one_last P s (t ∷ indices) all p = (all.0, one_last P s indices all.1 p)

pub one_more : (indices : List SourceIndex) (s : SourceIndex) → AreNamedOnce indices → list_any (λ (t : SourceIndex). bytes_eq s.name t.name) indices ≡ false → AreNamedOnce (indices ++ s ∷ [])
one_more [] s once new = (tt, tt)
one_more (t ∷ indices) s once new =
    let parts = none_of_two (bytes_eq s.name t.name) (list_any (λ (t : SourceIndex). bytes_eq s.name t.name) indices) new in
    (one_last (λ (u : SourceIndex). bytes_eq u.name t.name ≡ false) s indices once.0 parts.0, one_more indices s once.1 parts.1)

-- ---- a name is none of those before it
at : (P : SourceIndex → Type 0) (indices : List SourceIndex) (n : ℕ) (s : SourceIndex) → AllByRecursion P indices → slice_get indices n ≡ Some s → P s
at P [] n s all is = absurd (let z : ◌≡◌ {A = Option SourceIndex} None (Some s) = is in cc)
at P (t ∷ indices) zero s all is = subst P (same_Some t s is) all.0
at P (t ∷ indices) (suc n) s all is = at P indices n s all.1 is

pub name_is_new : (indices : List SourceIndex) (n : ℕ) (s : SourceIndex) → AreNamedOnce indices → slice_get indices n ≡ Some s → mapping_named (catalogued (take n indices)) s.name ≡ None
name_is_new [] n s once is = absurd (let z : ◌≡◌ {A = Option SourceIndex} None (Some s) = is in cc)
name_is_new (t ∷ indices) zero s once is = refl
name_is_new (t ∷ indices) (suc n) s once is =
    (λ i. if at (λ (u : SourceIndex). bytes_eq u.name t.name ≡ false) indices n s once.0 is i then Some t.mapping else mapping_named (catalogued (take n indices)) s.name)
    ∙ name_is_new indices n s once.1 is
