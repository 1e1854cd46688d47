-- The equations of `found_in` and `scalars_in`, one for each kind of tree.
use Rattle.std.proofs.Common.{◌≡◌, ℕ, ℤ, Bool, List, [], ◌∷◌, ◌++◌, map, sym, ap, ap₂, ◌∙◌, refl, subst}
use Rattle.std.specs.List.{flat_map}
use Rattle.tf_model.specs.declared.tree.Tree.{Tree, fold-roll-Tree, roll-Tree, map-Tree}
use Rattle.tf_model.specs.declared.tree.Tree.TheFolds.{ind-Tree}
use Rattle.tf_model.specs.declared.tree.Tree.TheOpen.{Tree-F}
use Rattle.tf_model.specs.declared.tree.Tree.TheVariants as t
use Rattle.tf_mapping.specs.Scalars.{Left, outside, here, next, Found, found_step, found_in, if_here}

pub found_null : (left : Left) → found_in t.Null left ≡ []
unfolding found_in
found_null left = ap (λ f. f left) (ap found_in (sym t.rolls-Null) ∙ fold-roll-Tree Found found_step Tree-F.Null)

pub found_bool : (b : Bool) (left : Left) → found_in (t.Bool b) left ≡ if_here (t.Bool b) left
unfolding found_in
found_bool b left = ap (λ f. f left) (ap found_in (sym (t.rolls-Bool b)) ∙ fold-roll-Tree Found found_step (Tree-F.Bool b))

pub found_num : (n : ℤ) (left : Left) → found_in (t.Num n) left ≡ if_here (t.Num n) left
unfolding found_in
found_num n left = ap (λ f. f left) (ap found_in (sym (t.rolls-Num n)) ∙ fold-roll-Tree Found found_step (Tree-F.Num n))

pub found_str : (s : List ℕ) (left : Left) → found_in (t.Str s) left ≡ if_here (t.Str s) left
unfolding found_in
found_str s left = ap (λ f. f left) (ap found_in (sym (t.rolls-Str s)) ∙ fold-roll-Tree Found found_step (Tree-F.Str s))

of_items : (left : Left) (items : List Tree) → flat_map (λ (item : Found). item left) (map found_in items) ≡ flat_map (λ item. found_in item left) items
of_items left [] = refl
of_items left (item ∷ items) = ap (λ rest. found_in item left ++ rest) (of_items left items)

pub found_arr : (items : List Tree) (left : Left) → found_in (t.Arr items) left ≡ flat_map (λ item. found_in item left) items
unfolding found_in
found_arr items left = ap (λ f. f left) (ap found_in (sym (t.rolls-Arr items)) ∙ fold-roll-Tree Found found_step (Tree-F.Arr items)) ∙ of_items left items

abbrev beside : List ℕ × Tree → List ℕ × Found
beside m = (m.0, found_in m.1)

of_members : (left : Left) (members : List (List ℕ × Tree))
    → flat_map (λ (m : List ℕ × Found). m.1 (next m.0 left)) (map beside members) ≡ flat_map (λ m. found_in m.1 (next m.0 left)) members
of_members left [] = refl
of_members left (m ∷ members) = ap (λ rest. found_in m.1 (next m.0 left) ++ rest) (of_members left members)

pub found_obj : (members : List (List ℕ × Tree)) (left : Left) → found_in (t.Obj members) left ≡ flat_map (λ m. found_in m.1 (next m.0 left)) members
unfolding found_in
found_obj members left = ap (λ f. f left) (ap found_in (sym (t.rolls-Obj members)) ∙ fold-roll-Tree Found found_step (Tree-F.Obj members)) ∙ of_members left members

abbrev IsNone : Tree → Type 0
IsNone tree = found_in tree outside ≡ []

abbrev WithNone : Type 0
WithNone = (tree : Tree) × IsNone tree

none_of_items : (items : List WithNone) → flat_map (λ item. found_in item outside) (map (λ e. e.0) items) ≡ []
none_of_items [] = refl
none_of_items (e ∷ items) = ap₂ (λ (first rest : List Tree). first ++ rest) e.1 (none_of_items items)

abbrev kept_member : List ℕ × WithNone → List ℕ × Tree
kept_member m = (m.0, m.1.0)

none_of_members : (members : List (List ℕ × WithNone)) → flat_map (λ m. found_in m.1 outside) (map kept_member members) ≡ []
none_of_members [] = refl
none_of_members (m ∷ members) = ap₂ (λ (first rest : List Tree). first ++ rest) m.1.1 (none_of_members members)

none_outside_step : (y : Tree-F WithNone) → IsNone (roll-Tree (map-Tree WithNone Tree (λ e. e.0) y))
none_outside_step Tree-F.Null = ap (λ tree. found_in tree outside) (t.rolls-Null) ∙ found_null outside
none_outside_step (Tree-F.Bool b) = ap (λ tree. found_in tree outside) (t.rolls-Bool b) ∙ found_bool b outside
none_outside_step (Tree-F.Num n) = ap (λ tree. found_in tree outside) (t.rolls-Num n) ∙ found_num n outside
none_outside_step (Tree-F.Str s) = ap (λ tree. found_in tree outside) (t.rolls-Str s) ∙ found_str s outside
none_outside_step (Tree-F.Arr items) =
    let trees : List Tree = map (λ e. e.0) items in
    ap (λ tree. found_in tree outside) (t.rolls-Arr trees) ∙ found_arr trees outside ∙ none_of_items items
none_outside_step (Tree-F.Obj members) =
    let trees = map kept_member members in
    ap (λ tree. found_in tree outside) (t.rolls-Obj trees) ∙ found_obj trees outside ∙ none_of_members members

-- nothing is found where the path does not lead
pub found_outside : (tree : Tree) → found_in tree outside ≡ []
found_outside = ind-Tree IsNone (λ x y is. subst (λ z. IsNone (roll-Tree z)) is (none_outside_step y))

none_below : (members : List (List ℕ × Tree)) → flat_map (λ m. found_in m.1 outside) members ≡ []
none_below [] = refl
none_below (m ∷ members) = ap₂ (λ (first rest : List Tree). first ++ rest) (found_outside m.1) (none_below members)

pub found_obj_here : (members : List (List ℕ × Tree)) → found_in (t.Obj members) here ≡ []
found_obj_here members = found_obj members here ∙ none_below members

pub ruleset founds = (found_null, found_bool, found_num, found_str, found_arr, found_obj, found_obj_here, found_outside)
