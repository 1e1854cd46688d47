-- The equations of `faults_of`, one for each kind of tree.
use Rattle.std.proofs.Common.{◌≡◌, ℕ, ℤ, Bool, ◌||◌, ◌&&◌, List, [], ◌∷◌, ◌++◌, Option, sym, ap, ap₂, ◌∙◌, refl}
use Rattle.std.specs.Prelude.{not}
use Rattle.std.specs.Str.{bytes_eq}
use Rattle.std.specs.List.{flat_map, fold}
use Rattle.std.proofs.lemmas.List.Sums.{fold-append}
use Rattle.tf_model.specs.declared.tree.Tree.{Tree, fold-roll-Tree}
use Rattle.tf_model.specs.declared.tree.Tree.TheOpen.{Tree-F}
use Rattle.tf_model.specs.declared.tree.Tree.TheVariants as t
use Rattle.tf_mapping.specs.Least.{lesser_text}
use Rattle.tf_mapping.specs.Settings.{Faults, faults_step, faults_of, no_object, alone, none_at, object_faults, faults_beside, has, has_one, property_faults, setting_faults, fault_if_not, type_name, properties_name}

pub faults_null : faults_of t.Null ≡ no_object alone
unfolding faults_of
faults_null = ap faults_of (sym t.rolls-Null) ∙ fold-roll-Tree Faults faults_step Tree-F.Null

pub faults_bool : (b : Bool) → faults_of (t.Bool b) ≡ no_object alone
unfolding faults_of
faults_bool b = ap faults_of (sym (t.rolls-Bool b)) ∙ fold-roll-Tree Faults faults_step (Tree-F.Bool b)

pub faults_num : (n : ℤ) → faults_of (t.Num n) ≡ no_object alone
unfolding faults_of
faults_num n = ap faults_of (sym (t.rolls-Num n)) ∙ fold-roll-Tree Faults faults_step (Tree-F.Num n)

pub faults_str : (s : List ℕ) → faults_of (t.Str s) ≡ no_object none_at
unfolding faults_of
faults_str s = ap faults_of (sym (t.rolls-Str s)) ∙ fold-roll-Tree Faults faults_step (Tree-F.Str s)

pub faults_arr : (items : List Tree) → faults_of (t.Arr items) ≡ no_object alone
unfolding faults_of
faults_arr items = ap faults_of (sym (t.rolls-Arr items)) ∙ fold-roll-Tree Faults faults_step (Tree-F.Arr items)

pub faults_obj : (members : List (List ℕ × Tree)) → faults_of (t.Obj members) ≡ object_faults (faults_beside members)
unfolding faults_of
faults_obj members = ap faults_of (sym (t.rolls-Obj members)) ∙ fold-roll-Tree Faults faults_step (Tree-F.Obj members)

same_names : (name : List ℕ) (members : List (List ℕ × Tree)) → has name (faults_beside members) ≡ has name members
same_names name [] = refl
same_names name (m ∷ members) = ap (λ rest. bytes_eq m.0 name || rest) (same_names name members)

same_one : (members : List (List ℕ × Tree)) → has_one (faults_beside members) ≡ has_one members
same_one members = ap₂ (λ (a b : Bool). (a || b) && not (a && b)) (same_names type_name members) (same_names properties_name members)

pub fold_both : (least : Option (List ℕ)) (members : List (List ℕ × Tree)) (path : List ℕ)
    → fold lesser_text least (property_faults (faults_beside members) path)
    ≡ fold lesser_text (fold lesser_text least (fault_if_not (has_one members) path)) (flat_map (setting_faults path) (faults_beside members))
fold_both least members path =
    ap (λ good. fold lesser_text least (fault_if_not good path ++ flat_map (setting_faults path) (faults_beside members))) (same_one members)
    ∙ fold-append lesser_text least (fault_if_not (has_one members) path) (flat_map (setting_faults path) (faults_beside members))

pub ruleset faults = (faults_null, faults_bool, faults_num, faults_str, faults_arr, faults_obj)
