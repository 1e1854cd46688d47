-- The equations of `unknown_in`, one for each kind of tree.
use Rattle.std.proofs.Common.{◌≡◌, ℕ, ℤ, Bool, List, [], ◌∷◌, ◌++◌, map, sym, ap, ◌∙◌, refl}
use Rattle.std.specs.Option.{option_to_list, option_map}
use Rattle.tf_model.specs.declared.tree.Tree.{Tree, fold-roll-Tree}
use Rattle.tf_model.specs.declared.tree.Tree.TheOpen.{Tree-F}
use Rattle.tf_model.specs.declared.tree.Tree.TheVariants as t
use Rattle.tf_query.specs.declared.forms.Form.{Form}
use Rattle.tf_query.specs.Unknown.{Paths, unknown_step, unknown_in, unknown_members, in_array, joined, first_unknown, unknown_object}

abbrev beside : List ℕ × Tree → List ℕ × Paths
beside m = (m.0, unknown_in m.1)

pub unknown_null : (f : Form) (path : List ℕ) → unknown_in t.Null f path ≡ []
unfolding unknown_in
unknown_null f path = ap (λ u. u f path) (ap unknown_in (sym t.rolls-Null) ∙ fold-roll-Tree Paths unknown_step Tree-F.Null)

pub unknown_bool : (b : Bool) (f : Form) (path : List ℕ) → unknown_in (t.Bool b) f path ≡ []
unfolding unknown_in
unknown_bool b f path = ap (λ u. u f path) (ap unknown_in (sym (t.rolls-Bool b)) ∙ fold-roll-Tree Paths unknown_step (Tree-F.Bool b))

pub unknown_num : (n : ℤ) (f : Form) (path : List ℕ) → unknown_in (t.Num n) f path ≡ []
unfolding unknown_in
unknown_num n f path = ap (λ u. u f path) (ap unknown_in (sym (t.rolls-Num n)) ∙ fold-roll-Tree Paths unknown_step (Tree-F.Num n))

pub unknown_str : (s : List ℕ) (f : Form) (path : List ℕ) → unknown_in (t.Str s) f path ≡ []
unfolding unknown_in
unknown_str s f path = ap (λ u. u f path) (ap unknown_in (sym (t.rolls-Str s)) ∙ fold-roll-Tree Paths unknown_step (Tree-F.Str s))

pub unknown_arr : (items : List Tree) (f : Form) (path : List ℕ) → unknown_in (t.Arr items) f path ≡ in_array f path (map unknown_in items)
unfolding unknown_in
unknown_arr items f path = ap (λ u. u f path) (ap unknown_in (sym (t.rolls-Arr items)) ∙ fold-roll-Tree Paths unknown_step (Tree-F.Arr items))

same_names : (members : List (List ℕ × Tree)) → map (λ m. m.0) (map beside members) ≡ map (λ m. m.0) members
same_names [] = refl
same_names (m ∷ members) = ap (λ names. m.0 ∷ names) (same_names members)

pub unknown_obj : (members : List (List ℕ × Tree)) (f : Form) (path : List ℕ) → unknown_in (t.Obj members) f path ≡ unknown_object f path members
unfolding unknown_in
unknown_obj members f path =
    ap (λ u. u f path) (ap unknown_in (sym (t.rolls-Obj members)) ∙ fold-roll-Tree Paths unknown_step (Tree-F.Obj members))
    ∙ ap (λ names. option_to_list (option_map (joined path) (first_unknown f names)) ++ unknown_members f path members) (same_names members)

pub ruleset unknowns = (unknown_null, unknown_bool, unknown_num, unknown_str, unknown_arr, unknown_obj)
