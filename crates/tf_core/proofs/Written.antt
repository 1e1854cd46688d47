-- The values of trees that an index keeps.
use Rattle.std.proofs.Common.{◌≡◌, ℕ, ℤ, Bool, true, false, ◌&&◌, List, Option, Some, None, refl, sym, ap, ◌∙◌}
use Rattle.std.specs.Prelude.{if◌then◌else◌}
use Rattle.tf_model.specs.declared.query.Mapping.{Mapping}
use Rattle.tf_model.specs.declared.tree.Tree.{Tree}
use Rattle.tf_model.specs.declared.value.Value.{Value}
use Rattle.tf_history.specs.Catalogue.{SourceIndex}
use Rattle.tf_mapping.specs.Documents.{reads, values_of}
use Rattle.tf_mapping.specs.Written.{has_moment, is_object, is_written}
use Rattle.tf_core.specs.Allowing.{if_stamped, read_in, written_in}
use Rattle.tf_core.proofs.Truths.{both}

-- what an index keeps its mapping reads
pub kept_is_read : (mapping : Mapping) (stamp : Option (List ℕ)) (at_ms : ℤ) (t : Tree) → is_written mapping stamp at_ms t ≡ true → reads mapping None t ≡ true
unfolding is_written
kept_is_read mapping stamp at_ms t e =
    (both (reads mapping None t) (has_moment stamp at_ms (values_of mapping stamp t)) (both (is_object t) (reads mapping None t && has_moment stamp at_ms (values_of mapping stamp t)) e).1).0

-- the stamp does not change how values are read
pub same_values : (mapping : Mapping) (stamp : Option (List ℕ)) (t : Tree) → values_of mapping None t ≡ values_of mapping stamp t
unfolding values_of
same_values mapping stamp t = refl

-- what is no object is not kept
pub no_object : (s : SourceIndex) (at_ms : ℤ) (t : Tree) → is_object t ≡ false → written_in s at_ms t ≡ None
unfolding is_written
no_object s at_ms t e = ap (λ b. if b && (reads s.mapping None t && has_moment s.stamp at_ms (values_of s.mapping s.stamp t)) then Some (values_of s.mapping s.stamp t) else None) e

-- nor is what the mapping does not read
pub not_read : (s : SourceIndex) (at_ms : ℤ) (t : Tree) → is_object t ≡ true → None ≡ read_in s.mapping t → written_in s at_ms t ≡ None
unfolding is_written
not_read s at_ms t e none =
    ap (λ b. if b && (reads s.mapping None t && has_moment s.stamp at_ms (values_of s.mapping s.stamp t)) then Some (values_of s.mapping s.stamp t) else None) e
    ∙ by (reads s.mapping None t) none
  where
    by : (b : Bool) → None ≡ (if b then Some (values_of s.mapping None t) else None)
        → (if b && has_moment s.stamp at_ms (values_of s.mapping s.stamp t) then Some (values_of s.mapping s.stamp t) else None) ≡ None
    by true e = absurd (let z : ◌≡◌ {A = Option (List (List ℕ × Value))} None (Some (values_of s.mapping None t)) = e in cc)
    by false e = refl

-- what is read is kept where the stamp has the moment
pub kept : (s : SourceIndex) (at_ms : ℤ) (t : Tree) (values : List (List ℕ × Value)) → is_object t ≡ true → Some values ≡ read_in s.mapping t → if_stamped s.stamp at_ms values ≡ written_in s at_ms t
unfolding is_written
kept s at_ms t values e some =
    by (reads s.mapping None t) some
    ∙ sym (ap (λ b. if b && (reads s.mapping None t && has_moment s.stamp at_ms (values_of s.mapping s.stamp t)) then Some (values_of s.mapping s.stamp t) else None) e)
  where
    by : (b : Bool) → Some values ≡ (if b then Some (values_of s.mapping None t) else None)
        → if_stamped s.stamp at_ms values ≡ (if b && has_moment s.stamp at_ms (values_of s.mapping s.stamp t) then Some (values_of s.mapping s.stamp t) else None)
    by true f = let same : values ≡ values_of s.mapping None t = cc in ap (if_stamped s.stamp at_ms) (same ∙ same_values s.mapping s.stamp t)
    by false f = absurd (let z : ◌≡◌ {A = Option (List (List ℕ × Value))} None (Some values) = sym f in cc)
