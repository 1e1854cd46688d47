-- The equations of `faults_of`, one for each kind of tree, and what is noted of several faults.
use Rattle.std.proofs.Common.{◌≡◌, ℕ, ℤ, Bool, List, [], ◌∷◌, ◌++◌, refl, sym, ap, ◌∙◌}
use Rattle.std.specs.List.{fold}
use Rattle.std.proofs.lemmas.List.Sums.{fold-append}
use Rattle.tf_model.specs.declared.tree.Tree.{Tree, fold-roll-Tree}
use Rattle.tf_model.specs.declared.tree.Tree.TheOpen.{Tree-F}
use Rattle.tf_model.specs.declared.tree.Tree.TheVariants as t
use Rattle.tf_mapping.specs.Scalars.{Place, path_in}
use Rattle.tf_config.specs.declared.forms.FormFault.TheVariants as fault
use Rattle.tf_config.specs.declared.forms.FormFaults.{FormFaults}
use Rattle.tf_config.specs.declared.table.Form.{Form}
use Rattle.tf_config.specs.declared.table.Object.{Object}
use Rattle.tf_config.specs.Forms.{Found, Faults, faults_step, faults_of, faults_beside, faults_each, takes_null, takes_truth, takes_number, takes_text, wrong_unless, of_array, of_object, in_names, in_members, in_object, absent_of, missing_aggs, missing_members, noted}
use Rattle.tf_config.specs.Members.{names_of, missing_each}
use Rattle.tf_config.specs.Table.{required}

pub faults_null : (form : Form) (place : Place) → faults_of t.Null form place ≡ wrong_unless (takes_null form) place
unfolding faults_of
faults_null form place = ap (λ f. f form place) (ap faults_of (sym t.rolls-Null) ∙ fold-roll-Tree Faults faults_step Tree-F.Null)

pub faults_bool : (b : Bool) (form : Form) (place : Place) → faults_of (t.Bool b) form place ≡ wrong_unless (takes_truth form) place
unfolding faults_of
faults_bool b form place = ap (λ f. f form place) (ap faults_of (sym (t.rolls-Bool b)) ∙ fold-roll-Tree Faults faults_step (Tree-F.Bool b))

pub faults_num : (n : ℤ) (form : Form) (place : Place) → faults_of (t.Num n) form place ≡ wrong_unless (takes_number form) place
unfolding faults_of
faults_num n form place = ap (λ f. f form place) (ap faults_of (sym (t.rolls-Num n)) ∙ fold-roll-Tree Faults faults_step (Tree-F.Num n))

pub faults_str : (s : List ℕ) (form : Form) (place : Place) → faults_of (t.Str s) form place ≡ wrong_unless (takes_text form) place
unfolding faults_of
faults_str s form place = ap (λ f. f form place) (ap faults_of (sym (t.rolls-Str s)) ∙ fold-roll-Tree Faults faults_step (Tree-F.Str s))

pub faults_arr : (items : List Tree) (form : Form) (place : Place) → faults_of (t.Arr items) form place ≡ of_array (faults_each items) form place
unfolding faults_of
faults_arr items form place = ap (λ f. f form place) (ap faults_of (sym (t.rolls-Arr items)) ∙ fold-roll-Tree Faults faults_step (Tree-F.Arr items))

pub faults_obj : (members : List (List ℕ × Tree)) (form : Form) (place : Place) → faults_of (t.Obj members) form place ≡ of_object (faults_beside members) form place
unfolding faults_of
faults_obj members form place = ap (λ f. f form place) (ap faults_of (sym (t.rolls-Obj members)) ∙ fold-roll-Tree Faults faults_step (Tree-F.Obj members))

pub ruleset faults = (faults_null, faults_bool, faults_num, faults_str, faults_arr, faults_obj)

-- ---- several faults
pub noted_both : (found : FormFaults) (xs ys : List Found) → fold noted found (xs ++ ys) ≡ fold noted (fold noted found xs) ys
noted_both found xs ys = fold-append noted found xs ys

pub ruleset folds = (noted_both)

same_names : (members : List (List ℕ × Tree)) → names_of (faults_beside members) ≡ names_of members
same_names [] = refl
same_names (m ∷ members) = ap (λ names. m.0 ∷ names) (same_names members)

pub noted_object : (found : FormFaults) (parent : Object) (place : Place) (members : List (List ℕ × Tree))
    → fold noted found (in_object parent place (faults_beside members)) ≡ fold noted (fold noted found (in_names parent place (names_of members))) (in_members parent place (faults_beside members))
noted_object found parent place members =
    ap (λ names. fold noted found (in_names parent place names ++ in_members parent place (faults_beside members))) (same_names members)
    ∙ noted_both found (in_names parent place (names_of members)) (in_members parent place (faults_beside members))

pub ruleset objects = (noted_object)

map_both : (place : Place) (xs ys : List (List ℕ)) → missing_each place (xs ++ ys) ≡ missing_each place xs ++ missing_each place ys
map_both place [] ys = refl
map_both place (x ∷ xs) ys = ap (λ rest. (fault.Missing, path_in place x) ∷ rest) (map_both place xs ys)

pub noted_absent : (found : FormFaults) (parent : Object) (place : Place) (names : List (List ℕ))
    → fold noted found (missing_members parent place names) ≡ fold noted (fold noted found (missing_each place (absent_of names (required parent)))) (missing_each place (missing_aggs parent names))
noted_absent found parent place names =
    ap (fold noted found) (map_both place (absent_of names (required parent)) (missing_aggs parent names))
    ∙ noted_both found (missing_each place (absent_of names (required parent))) (missing_each place (missing_aggs parent names))

pub ruleset absents = (noted_absent)
