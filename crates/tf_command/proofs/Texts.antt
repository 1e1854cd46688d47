-- The tree of a value prints as the value's compact text.
use Rattle.std.proofs.Common.{◌≡◌, ℕ, ◌+◌, ℤ, pos, negsuc, Bool, true, false, List, [], ◌∷◌, ◌++◌, map, Ok, Err, decimal, refl, sym, ap, ap₂, subst, ◌∙◌}
use Rattle.json.specs.Print.{quoted}
use Rattle.serde_json.specs.Data.{Num, unsigned, negative, float, Data, null, boolean, number, string, array, object, Items, no_items, item, Members, no_members, member}
use Rattle.serde_json.specs.Find.{of_integer}
use Rattle.serde_json.specs.View.{items_of}
use Rattle.serde_json.specs.Written.{comma_if, compact_text, items_text, members_text}
use Rattle.tf_json.specs.Reading.{Reads, map_reads, in_part, and_then, tree_of, tree_of_number, trees_of, members_of}
use Rattle.tf_json.specs.Stored.{data_of, data_member, named}
use Rattle.tf_json.proofs.Made.{data-Null, data-Bool, data-Num, data-Str, data-Arr, data-Obj}
use Rattle.tf_json.proofs.Own.{same_text}
use Rattle.tf_model.specs.Print.{printed}
use Rattle.tf_model.specs.declared.tree.Tree.{Tree}
use Rattle.tf_model.specs.declared.tree.Tree.TheVariants as t

mapped : {A B : Type 0} (f : A → B) (r : Reads A) (b : B) → map_reads f r ≡ Ok b → (a : A) × (r ≡ Ok a) × (f a ≡ b)
mapped f (Ok a) b e = (a, refl, cc)
mapped f (Err p) b e = absurd (cc)

opened : {A B : Type 0} (r : Reads A) (f : A → Reads B) (b : B) → and_then r f ≡ Ok b → (a : A) × (r ≡ Ok a) × (f a ≡ Ok b)
opened (Ok a) f b e = (a, refl, e)
opened (Err p) f b e = absurd (cc)

unpart : {A : Type 0} (part : List ℕ) (r : Reads A) (a : A) → in_part part r ≡ Ok a → r ≡ Ok a
unpart part (Ok b) a e = e
unpart part (Err p) a e = absurd (cc)

abbrev Same : Data → Tree → Type 0
Same d x = compact_text (data_of x) ≡ compact_text d

integer_text : (z : ℤ) → compact_text (number (of_integer z)) ≡ compact_text (number (negative z))
integer_text (pos n) = refl
integer_text (negsuc n) = refl

number_same : (n : Num) (x : Tree) → tree_of_number n ≡ Ok x → Same (number n) x
number_same (unsigned n) x e = let same : t.Num (pos n) ≡ x = cc in subst (Same (number (unsigned n))) same (ap compact_text (data-Num (pos n)))
number_same (negative z) x e = let same : t.Num z ≡ x = cc in subst (Same (number (negative z))) same (ap compact_text (data-Num z) ∙ integer_text z)
number_same (float y) x e = absurd (cc)

mutual
  value_same : (d : Data) (x : Tree) → tree_of d ≡ Ok x → Same d x
  value_same null x e = let same : t.Null ≡ x = cc in subst (Same null) same (ap compact_text data-Null)
  value_same (boolean b) x e = let same : t.Bool b ≡ x = cc in subst (Same (boolean b)) same (ap compact_text (data-Bool b))
  value_same (number n) x e = number_same n x e
  value_same (string s) x e = let same : t.Str s ≡ x = cc in subst (Same (string s)) same (ap compact_text (data-Str s))
  value_same (array ds) x e =
      let p = mapped t.Arr (trees_of 0 ds) x e in
      subst (Same (array ds)) p.2 (ap compact_text (data-Arr p.0) ∙ ap (λ s. 91 ∷ s) (items_same false 0 ds p.0 p.1))
  value_same (object ms) x e =
      let p = mapped t.Obj (members_of ms) x e in
      subst (Same (object ms)) p.2 (ap compact_text (data-Obj p.0) ∙ ap (λ s. 123 ∷ s) (members_same false ms p.0 p.1))

  items_same : (later : Bool) (place : ℕ) (ds : Items) (xs : List Tree) → trees_of place ds ≡ Ok xs → items_text later (items_of (map data_of xs)) ≡ items_text later ds
  items_same later place no_items xs e = let same : [] ≡ xs = cc in ap (λ ys. items_text later (items_of (map data_of ys))) (sym same)
  items_same later place (item d ds) xs e =
      let one = opened (in_part (decimal place) (tree_of d)) _ xs e in
      let more = mapped _ (trees_of (place + 1) ds) xs one.2 in
      ap (λ ys. items_text later (items_of (map data_of ys))) (sym more.2)
      ∙ ap₂ (λ (a b : List ℕ). comma_if later ++ (a ++ b)) (value_same d one.0 (unpart (decimal place) (tree_of d) one.0 one.1)) (items_same true (place + 1) ds more.0 more.1)

  members_same : (later : Bool) (ms : Members) (xs : List (List ℕ × Tree)) → members_of ms ≡ Ok xs → members_text later (named (map data_member xs)) ≡ members_text later ms
  members_same later no_members xs e = let same : [] ≡ xs = cc in ap (λ ys. members_text later (named (map data_member ys))) (sym same)
  members_same later (member k d ms) xs e =
      let one = opened (in_part k (tree_of d)) _ xs e in
      let more = mapped _ (members_of ms) xs one.2 in
      ap (λ ys. members_text later (named (map data_member ys))) (sym more.2)
      ∙ ap₂ (λ (a b : List ℕ). comma_if later ++ (quoted k ++ 58 ∷ (a ++ b))) (value_same d one.0 (unpart k (tree_of d) one.0 one.1)) (members_same true ms more.0 more.1)

pub printed_value : (d : Data) (x : Tree) → tree_of d ≡ Ok x → printed x ≡ compact_text d
printed_value d x e = same_text x ∙ value_same d x e
