-- The equations of `part_of`, one for each kind of tree.
use Rattle.std.proofs.Common.{◌≡◌, ℕ, ℤ, Bool, false, cond, codes, List, [], ◌∷◌, map, sym, ap, ap₂, ◌∙◌, refl, subst}
use Rattle.std.specs.Str.{bytes_eq}
use Rattle.tf_model.specs.declared.tree.Tree.{Tree, fold-roll-Tree, roll-Tree, map-Tree}
use Rattle.tf_model.specs.declared.tree.Tree.TheFolds.{ind-Tree}
use Rattle.tf_model.specs.declared.tree.Tree.TheOpen.{Tree-F}
use Rattle.tf_model.specs.declared.tree.Tree.TheVariants as t
use Rattle.tf_model.specs.declared.query.Mapping.{Mapping}
use Rattle.tf_query.specs.Queries.{Part, part_step, part_of, no_query, object_part, array_part, query_beside, leaf_in, parts_of}

pub part_null : (fields : Mapping) → part_of fields t.Null ≡ no_query t.Null
unfolding part_of
part_null fields = ap (part_of fields) (sym t.rolls-Null) ∙ fold-roll-Tree Part (part_step fields) Tree-F.Null

pub part_bool : (fields : Mapping) (b : Bool) → part_of fields (t.Bool b) ≡ no_query (t.Bool b)
unfolding part_of
part_bool fields b = ap (part_of fields) (sym (t.rolls-Bool b)) ∙ fold-roll-Tree Part (part_step fields) (Tree-F.Bool b)

pub part_num : (fields : Mapping) (n : ℤ) → part_of fields (t.Num n) ≡ no_query (t.Num n)
unfolding part_of
part_num fields n = ap (part_of fields) (sym (t.rolls-Num n)) ∙ fold-roll-Tree Part (part_step fields) (Tree-F.Num n)

pub part_str : (fields : Mapping) (s : List ℕ) → part_of fields (t.Str s) ≡ no_query (t.Str s)
unfolding part_of
part_str fields s = ap (part_of fields) (sym (t.rolls-Str s)) ∙ fold-roll-Tree Part (part_step fields) (Tree-F.Str s)

pub part_arr : (fields : Mapping) (items : List Tree) → part_of fields (t.Arr items) ≡ array_part (map (part_of fields) items)
unfolding part_of
part_arr fields items = ap (part_of fields) (sym (t.rolls-Arr items)) ∙ fold-roll-Tree Part (part_step fields) (Tree-F.Arr items)

pub part_obj : (fields : Mapping) (members : List (List ℕ × Tree)) → part_of fields (t.Obj members) ≡ object_part fields (map (λ m. (m.0, part_of fields m.1)) members)
unfolding part_of
part_obj fields members = ap (part_of fields) (sym (t.rolls-Obj members)) ∙ fold-roll-Tree Part (part_step fields) (Tree-F.Obj members)

abbrev IsKept : Mapping → Tree → Type 0
IsKept fields tree = (part_of fields tree).itself ≡ tree

abbrev Kept : Mapping → Type 0
Kept fields = (tree : Tree) × IsKept fields tree

kept_items : (fields : Mapping) (items : List (Kept fields)) → map (λ p. p.itself) (map (part_of fields) (map (λ e. e.0) items)) ≡ map (λ e. e.0) items
kept_items fields [] = refl
kept_items fields (e ∷ items) = ap₂ (λ tree trees. tree ∷ trees) e.1 (kept_items fields items)

abbrev kept_member : (fields : Mapping) → List ℕ × Kept fields → List ℕ × Tree
kept_member fields m = (m.0, m.1.0)

abbrev itself_beside : List ℕ × Part → List ℕ × Tree
itself_beside m = (m.0, m.1.itself)

kept_members : (fields : Mapping) (members : List (List ℕ × Kept fields)) → map itself_beside (parts_of fields (map (kept_member fields) members)) ≡ map (kept_member fields) members
kept_members fields [] = refl
kept_members fields (m ∷ members) = ap₂ (λ (tree : Tree) (trees : List (List ℕ × Tree)). (m.0, tree) ∷ trees) m.1.1 (kept_members fields members)

kept : (fields : Mapping) (y : Tree-F (Kept fields)) → IsKept fields (roll-Tree (map-Tree (Kept fields) Tree (λ e. e.0) y))
unfolding part_of
kept fields Tree-F.Null = ap (λ p. p.itself) (fold-roll-Tree Part (part_step fields) Tree-F.Null) ∙ sym t.rolls-Null
kept fields (Tree-F.Bool b) = ap (λ p. p.itself) (fold-roll-Tree Part (part_step fields) (Tree-F.Bool b)) ∙ sym (t.rolls-Bool b)
kept fields (Tree-F.Num n) = ap (λ p. p.itself) (fold-roll-Tree Part (part_step fields) (Tree-F.Num n)) ∙ sym (t.rolls-Num n)
kept fields (Tree-F.Str s) = ap (λ p. p.itself) (fold-roll-Tree Part (part_step fields) (Tree-F.Str s)) ∙ sym (t.rolls-Str s)
kept fields (Tree-F.Arr items) =
    let trees : List Tree = map (λ e. e.0) items in
    ap (λ p. p.itself) (fold-roll-Tree Part (part_step fields) (Tree-F.Arr trees)) ∙ ap t.Arr (kept_items fields items) ∙ sym (t.rolls-Arr trees)
kept fields (Tree-F.Obj members) =
    let trees = map (kept_member fields) members in
    ap (λ p. p.itself) (fold-roll-Tree Part (part_step fields) (Tree-F.Obj trees)) ∙ ap t.Obj (kept_members fields members) ∙ sym (t.rolls-Obj trees)

pub part_itself : (fields : Mapping) (tree : Tree) → (part_of fields tree).itself ≡ tree
part_itself fields = ind-Tree (IsKept fields) (λ x y is. subst (λ z. IsKept fields (roll-Tree z)) is (kept fields y))

pub leaf_beside : (fields : Mapping) (kind : List ℕ) (tree : Tree) → bytes_eq kind (codes "bool") ≡ false → query_beside fields (kind, part_of fields tree) ≡ leaf_in fields kind tree
leaf_beside fields kind tree other =
    ap (λ b. cond b (part_of fields tree).clauses (leaf_in fields kind (part_of fields tree).itself)) other ∙ ap (leaf_in fields kind) (part_itself fields tree)

pub ruleset parts = (part_null, part_bool, part_num, part_str, part_arr, part_obj)
