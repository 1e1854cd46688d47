-- Following a path into a document finds the scalars that stand at it.
use Rattle.std.proofs.Common.{◌≡◌, ℕ, ℤ, Bool, true, false, cond, ◌&&◌, List, [], ◌∷◌, ◌++◌, Option, Some, None, map, sym, ap, ap₂, ◌∙◌, refl, subst}
use Rattle.std.specs.Prelude.{filter, ◌==◌}
use Rattle.std.proofs.lemmas.List.{map-append}
use Rattle.std.specs.List.{flat_map}
use Rattle.std.specs.Str.{bytes_eq}
use Rattle.std.proofs.lemmas.List.Elements.{filter-append}
use Rattle.tf_model.specs.declared.tree.Tree.{Tree, fold-roll-Tree, roll-Tree, map-Tree}
use Rattle.tf_model.specs.declared.tree.Tree.TheFolds.{ind-Tree}
use Rattle.tf_model.specs.declared.tree.Tree.TheOpen.{Tree-F}
use Rattle.tf_model.specs.declared.tree.Tree.TheVariants as t
use Rattle.tf_mapping.specs.Scalars.{Place, path_in, Scalars, scalar_at, scalars_step, scalars_in, at_path, scalars_at, Left, outside, inside, after, left_from, behind, next, found_in, if_here}
use Rattle.tf_mapping.proofs.PathLaws.{behind_joined}
use Rattle.tf_mapping.proofs.FoundLaws.{found_null, found_bool, found_num, found_str, found_arr, found_obj}

-- ---- the equations of `scalars_in`
pub scalars_null : (place : Place) → scalars_in t.Null place ≡ []
unfolding scalars_in
scalars_null place = ap (λ f. f place) (ap scalars_in (sym t.rolls-Null) ∙ fold-roll-Tree Scalars scalars_step Tree-F.Null)

pub scalars_bool : (b : Bool) (place : Place) → scalars_in (t.Bool b) place ≡ scalar_at (t.Bool b) place
unfolding scalars_in
scalars_bool b place = ap (λ f. f place) (ap scalars_in (sym (t.rolls-Bool b)) ∙ fold-roll-Tree Scalars scalars_step (Tree-F.Bool b))

pub scalars_num : (n : ℤ) (place : Place) → scalars_in (t.Num n) place ≡ scalar_at (t.Num n) place
unfolding scalars_in
scalars_num n place = ap (λ f. f place) (ap scalars_in (sym (t.rolls-Num n)) ∙ fold-roll-Tree Scalars scalars_step (Tree-F.Num n))

pub scalars_str : (s : List ℕ) (place : Place) → scalars_in (t.Str s) place ≡ scalar_at (t.Str s) place
unfolding scalars_in
scalars_str s place = ap (λ f. f place) (ap scalars_in (sym (t.rolls-Str s)) ∙ fold-roll-Tree Scalars scalars_step (Tree-F.Str s))

of_items : (place : Place) (items : List Tree) → flat_map (λ (item : Scalars). item place) (map scalars_in items) ≡ flat_map (λ item. scalars_in item place) items
of_items place [] = refl
of_items place (item ∷ items) = ap (λ rest. scalars_in item place ++ rest) (of_items place items)

pub scalars_arr : (items : List Tree) (place : Place) → scalars_in (t.Arr items) place ≡ flat_map (λ item. scalars_in item place) items
unfolding scalars_in
scalars_arr items place = ap (λ f. f place) (ap scalars_in (sym (t.rolls-Arr items)) ∙ fold-roll-Tree Scalars scalars_step (Tree-F.Arr items)) ∙ of_items place items

abbrev beside : List ℕ × Tree → List ℕ × Scalars
beside m = (m.0, scalars_in m.1)

of_members : (place : Place) (members : List (List ℕ × Tree))
    → flat_map (λ (m : List ℕ × Scalars). m.1 (Some (path_in place m.0))) (map beside members) ≡ flat_map (λ m. scalars_in m.1 (Some (path_in place m.0))) members
of_members place [] = refl
of_members place (m ∷ members) = ap (λ rest. scalars_in m.1 (Some (path_in place m.0)) ++ rest) (of_members place members)

pub scalars_obj : (members : List (List ℕ × Tree)) (place : Place) → scalars_in (t.Obj members) place ≡ flat_map (λ m. scalars_in m.1 (Some (path_in place m.0))) members
unfolding scalars_in
scalars_obj members place = ap (λ f. f place) (ap scalars_in (sym (t.rolls-Obj members)) ∙ fold-roll-Tree Scalars scalars_step (Tree-F.Obj members)) ∙ of_members place members

-- ---- what is left of a field's path at a place
abbrev left_at : List ℕ → Place → Left
left_at field None = inside field
left_at field (Some path) = behind path field

left_below : (field : List ℕ) (place : Place) (name : List ℕ) → behind (path_in place name) field ≡ next name (left_at field place)
left_below field None name = refl
left_below field (Some path) name = behind_joined path name field

dot_is_outside : (tree : Tree) (b : Bool) (field : List ℕ) → if_here tree (cond b (inside field) outside) ≡ []
dot_is_outside tree true field = refl
dot_is_outside tree false field = refl

by_byte : (tree : Tree) (b same : Bool) (rest : Option (List ℕ)) → if_here tree (left_from rest) ≡ cond same (tree ∷ []) []
    → if_here tree (left_from (cond b rest None)) ≡ cond (b && same) (tree ∷ []) []
by_byte tree true same rest h = h
by_byte tree false same rest h = refl

here_by_bytes : (tree : Tree) (path field : List ℕ) → if_here tree (behind path field) ≡ cond (bytes_eq field path) (tree ∷ []) []
here_by_bytes tree [] [] = refl
here_by_bytes tree [] (c ∷ field) = dot_is_outside tree (c == 46) field
here_by_bytes tree (n ∷ path) [] = refl
here_by_bytes tree (n ∷ path) (c ∷ field) = by_byte tree (c == n) (bytes_eq field path) (after path field) (here_by_bytes tree path field)

pub one_at : (b : Bool) (path : List ℕ) (tree : Tree) → map (λ (s : List ℕ × Tree). s.1) (cond b ((path, tree) ∷ []) []) ≡ cond b (tree ∷ []) []
one_at true path tree = refl
one_at false path tree = refl

-- a scalar is found where the path ends
leaf_found : (field : List ℕ) (tree : Tree) (place : Place) → at_path field (scalar_at tree place) ≡ if_here tree (left_at field place)
leaf_found field tree None = refl
leaf_found field tree (Some path) = one_at (bytes_eq field path) path tree ∙ sym (here_by_bytes tree path field)

pub at_both : (field : List ℕ) (xs ys : List (List ℕ × Tree)) → at_path field (xs ++ ys) ≡ at_path field xs ++ at_path field ys
at_both field xs ys = ap (λ l. map (λ (s : List ℕ × Tree). s.1) l) (filter-append (λ (s : List ℕ × Tree). bytes_eq field s.0) xs ys)
    ∙ map-append (λ (s : List ℕ × Tree). s.1) (filter (λ (s : List ℕ × Tree). bytes_eq field s.0) xs) (filter (λ (s : List ℕ × Tree). bytes_eq field s.0) ys)

-- ---- the induction on trees
abbrev IsFound : List ℕ → Tree → Type 0
IsFound field tree = (place : Place) → at_path field (scalars_in tree place) ≡ found_in tree (left_at field place)

abbrev WithFound : List ℕ → Type 0
WithFound field = (tree : Tree) × IsFound field tree

items_found : (field : List ℕ) (place : Place) (items : List (WithFound field))
    → at_path field (flat_map (λ item. scalars_in item place) (map (λ e. e.0) items)) ≡ flat_map (λ item. found_in item (left_at field place)) (map (λ e. e.0) items)
items_found field place [] = refl
items_found field place (e ∷ items) =
    at_both field (scalars_in e.0 place) (flat_map (λ item. scalars_in item place) (map (λ (e : WithFound field). e.0) items))
    ∙ ap₂ (λ (first rest : List Tree). first ++ rest) (e.1 place) (items_found field place items)

abbrev kept_member : (field : List ℕ) → List ℕ × WithFound field → List ℕ × Tree
kept_member field m = (m.0, m.1.0)

members_found : (field : List ℕ) (place : Place) (members : List (List ℕ × WithFound field))
    → at_path field (flat_map (λ m. scalars_in m.1 (Some (path_in place m.0))) (map (kept_member field) members))
    ≡ flat_map (λ m. found_in m.1 (next m.0 (left_at field place))) (map (kept_member field) members)
members_found field place [] = refl
members_found field place (m ∷ members) =
    at_both field (scalars_in m.1.0 (Some (path_in place m.0))) (flat_map (λ m. scalars_in m.1 (Some (path_in place m.0))) (map (kept_member field) members))
    ∙ ap₂ (λ (first rest : List Tree). first ++ rest) (m.1.1 (Some (path_in place m.0)) ∙ ap (found_in m.1.0) (left_below field place m.0)) (members_found field place members)

abbrev same : (field : List ℕ) (place : Place) → Tree → Tree → Type 0
same field place a b = at_path field (scalars_in a place) ≡ found_in b (left_at field place)

rolled : (field : List ℕ) (place : Place) (a b : Tree) → a ≡ b → same field place b b → same field place a a
rolled field place a b is h = subst (λ tree. same field place tree tree) (sym is) h

found_step_holds : (field : List ℕ) (y : Tree-F (WithFound field)) → IsFound field (roll-Tree (map-Tree (WithFound field) Tree (λ e. e.0) y))
found_step_holds field Tree-F.Null place = rolled field place _ t.Null t.rolls-Null (ap (at_path field) (scalars_null place) ∙ sym (found_null (left_at field place)))
found_step_holds field (Tree-F.Bool b) place =
    rolled field place _ (t.Bool b) (t.rolls-Bool b) (ap (at_path field) (scalars_bool b place) ∙ leaf_found field (t.Bool b) place ∙ sym (found_bool b (left_at field place)))
found_step_holds field (Tree-F.Num n) place =
    rolled field place _ (t.Num n) (t.rolls-Num n) (ap (at_path field) (scalars_num n place) ∙ leaf_found field (t.Num n) place ∙ sym (found_num n (left_at field place)))
found_step_holds field (Tree-F.Str s) place =
    rolled field place _ (t.Str s) (t.rolls-Str s) (ap (at_path field) (scalars_str s place) ∙ leaf_found field (t.Str s) place ∙ sym (found_str s (left_at field place)))
found_step_holds field (Tree-F.Arr items) place =
    let trees : List Tree = map (λ e. e.0) items in
    rolled field place _ (t.Arr trees) (t.rolls-Arr trees) (ap (at_path field) (scalars_arr trees place) ∙ items_found field place items ∙ sym (found_arr trees (left_at field place)))
found_step_holds field (Tree-F.Obj members) place =
    let trees = map (kept_member field) members in
    rolled field place _ (t.Obj trees) (t.rolls-Obj trees) (ap (at_path field) (scalars_obj trees place) ∙ members_found field place members ∙ sym (found_obj trees (left_at field place)))

found_anywhere : (field : List ℕ) (tree : Tree) → IsFound field tree
found_anywhere field = ind-Tree (IsFound field) (λ x y is. subst (λ z. IsFound field (roll-Tree z)) is (found_step_holds field y))

-- the scalars of a document at a field's path are those that are found along the path
pub scalars_found : (field : List ℕ) (tree : Tree) → scalars_at field tree ≡ found_in tree (inside field)
scalars_found field tree = found_anywhere field tree None
