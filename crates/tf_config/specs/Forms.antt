-- What is at fault in the form of a configuration's tree, by the table of its members.
use Rattle.std.specs.Prelude.{ℕ, ◌+◌, Bool, true, false, not, ◌&&◌, ◌||◌, List, [], ◌∷◌, ◌++◌, map, filter, codes, Option, Some, None, is_none, unwrap_or, if◌then◌else◌}
use Rattle.std.specs.Fmt.{decimal}
use Rattle.std.specs.Option.{option_map, option_to_list}
use Rattle.std.specs.Str.{bytes_eq}
use Rattle.tf_model.specs.declared.tree.Tree.{Tree}
use Rattle.tf_model.specs.declared.tree.Tree.TheOpen.{Tree-F}
use Rattle.tf_model.specs.declared.tree.Tree.TheFolds.{fold-Tree}
use Rattle.tf_mapping.specs.Least.{lesser_text, least_text, is_one_of}
use Rattle.tf_mapping.specs.Scalars.{Place, path_in}
use Rattle.tf_config.specs.declared.forms.FormFault.{FormFault}
use Rattle.tf_config.specs.declared.forms.FormFault.TheVariants as fault
use Rattle.tf_config.specs.declared.forms.FormFaults.{FormFaults}
use Rattle.tf_config.specs.declared.table.Form.{Form}
use Rattle.tf_config.specs.declared.table.Form.TheVariants as form
use Rattle.tf_config.specs.declared.table.Object.{Object}
use Rattle.tf_config.specs.declared.table.Object.TheVariants as object
use Rattle.tf_config.specs.Checks.{told_if, is_empty}
use Rattle.tf_config.specs.Table.{Member, required, form_of}

-- what is at fault, and the path where it is
abbrev pub Found : Type 0
Found = FormFault × List ℕ

-- the path of a place, which is empty at the top
abbrev pub path_of : Place → List ℕ
path_of place = unwrap_or place []

abbrev pub wrong_kind : Place → List Found
wrong_kind place = (fault.WrongKind, path_of place) ∷ []

abbrev pub missing : Place → List Found
missing place = (fault.Missing, path_of place) ∷ []

-- what is at fault in a tree, by the form that is to stand there and its place
abbrev pub Faults : Type 0
Faults = Form → Place → List Found

-- ---- members

-- the second name of aggregations, beside the first
abbrev pub is_second : Object → List (List ℕ) → List ℕ → Bool
is_second object.Pivot names name = bytes_eq name (codes "aggs") && is_one_of names (codes "aggregations")
is_second _ names name = false

-- a name that may not stand in an object with these names
abbrev pub is_unknown : Object → List (List ℕ) → List ℕ → Bool
is_unknown parent names name = is_none (form_of parent name) || is_second parent names name

-- the least name in bytes that may not stand there
abbrev pub first_unknown : Object → List (List ℕ) → Option (List ℕ)
first_unknown parent names = least_text (filter (is_unknown parent names) names)

abbrev pub unknown_member : Object → Place → List (List ℕ) → List Found
unknown_member parent place names = option_to_list (option_map (λ name. (fault.Unknown, path_in place name)) (first_unknown parent names))

-- aggregations stand under one of two names
abbrev pub missing_aggs : Object → List (List ℕ) → List (List ℕ)
missing_aggs object.Pivot names = told_if (not (is_one_of names (codes "aggs") || is_one_of names (codes "aggregations"))) (codes "aggregations")
missing_aggs _ names = []

-- the names of members that do not stand among these
abbrev pub absent_of : List (List ℕ) → List Member → List (List ℕ)
absent_of names members = filter (λ name. not (is_one_of names name)) (map (λ member. member.0) members)

-- the names that are to stand beside these
abbrev pub absent : Object → List (List ℕ) → List (List ℕ)
absent parent names = absent_of names (required parent) ++ missing_aggs parent names

abbrev pub missing_members : Object → Place → List (List ℕ) → List Found
missing_members parent place names = map (λ name. (fault.Missing, path_in place name)) (absent parent names)

abbrev pub is_one : List (List ℕ) → Bool
is_one (name ∷ []) = true
is_one _ = false

-- a pivot has some groups, and a group and an aggregation have one member
abbrev pub miscounted : Object → Place → List (List ℕ) → List Found
miscounted object.Groups place names = if is_empty names then missing place else []
miscounted object.Group place names = if is_one names then [] else wrong_kind place
miscounted object.Agg place names = if is_one names then [] else wrong_kind place
miscounted _ place names = []

-- what is at fault inside a member
abbrev pub in_member : Option Form → Faults → List ℕ → List Found
in_member None inner path = []
in_member (Some form) inner path = inner form (Some path)

abbrev pub in_members : Object → Place → List (List ℕ × Faults) → List Found
in_members parent place [] = []
in_members parent place (m ∷ members) = in_member (form_of parent m.0) m.1 (path_in place m.0) ++ in_members parent place members

-- what is at fault with the names of an object's members
abbrev pub in_names : Object → Place → List (List ℕ) → List Found
in_names parent place names = unknown_member parent place names ++ missing_members parent place names ++ miscounted parent place names

abbrev pub in_object : Object → Place → List (List ℕ × Faults) → List Found
in_object parent place members = in_names parent place (map (λ m. m.0) members) ++ in_members parent place members

-- ---- items

-- texts, counted from a place
abbrev pub in_items : ℕ → Place → List Faults → List Found
in_items n place [] = []
in_items n place (item ∷ items) = item form.Text (Some (path_in place (decimal n))) ++ in_items (n + 1) place items

-- some items are needed
abbrev pub if_empty : List Faults → Place → List Found
if_empty items place = if is_empty items then missing place else []

abbrev pub in_list : Place → List Faults → List Found
in_list place items = if_empty items place ++ in_items 0 place items

-- ---- trees, where a query is looked at elsewhere

abbrev pub takes_null : Form → Bool
takes_null form.Query = true
takes_null _ = false

abbrev pub takes_truth : Form → Bool
takes_truth form.Truth = true
takes_truth form.Query = true
takes_truth _ = false

abbrev pub takes_number : Form → Bool
takes_number form.Number = true
takes_number form.Query = true
takes_number _ = false

abbrev pub takes_text : Form → Bool
takes_text form.Text = true
takes_text form.Names = true
takes_text form.Query = true
takes_text _ = false

abbrev pub wrong_unless : Bool → Place → List Found
wrong_unless fits place = if fits then [] else wrong_kind place

abbrev pub of_array : List Faults → Faults
of_array items form.Texts place = in_list place items
of_array items form.Names place = in_list place items
of_array items form.Query place = []
of_array items _ place = wrong_kind place

abbrev pub of_object : List (List ℕ × Faults) → Faults
of_object members (form.Object parent) place = in_object parent place members
of_object members form.Free place = []
of_object members form.Query place = []
of_object members _ place = wrong_kind place

-- one level of a tree, with what is at fault in each tree inside in its place
abbrev pub faults_step : Tree-F Faults → Faults
faults_step Tree-F.Null = λ form place. wrong_unless (takes_null form) place
faults_step (Tree-F.Bool b) = λ form place. wrong_unless (takes_truth form) place
faults_step (Tree-F.Num n) = λ form place. wrong_unless (takes_number form) place
faults_step (Tree-F.Str s) = λ form place. wrong_unless (takes_text form) place
faults_step (Tree-F.Arr items) = of_array items
faults_step (Tree-F.Obj members) = of_object members

unfoldable pub faults_of : Tree → Faults
faults_of = fold-Tree Faults faults_step

-- the same of members and of items
abbrev pub faults_beside : List (List ℕ × Tree) → List (List ℕ × Faults)
faults_beside members = map (λ m. (m.0, faults_of m.1)) members

abbrev pub faults_each : List Tree → List Faults
faults_each items = map faults_of items

-- what is at fault in the form of a configuration, with or without a destination
abbrev pub form_faults : Bool → Tree → List Found
form_faults need_dest t = faults_of t (form.Object (if need_dest then object.Config else object.Preview)) None

-- ---- by kind

abbrev pub is_unknown_fault : FormFault → Bool
is_unknown_fault fault.Unknown = true
is_unknown_fault _ = false

abbrev pub is_missing_fault : FormFault → Bool
is_missing_fault fault.Missing = true
is_missing_fault _ = false

abbrev pub is_wrong_kind_fault : FormFault → Bool
is_wrong_kind_fault fault.WrongKind = true
is_wrong_kind_fault _ = false

-- the paths of what is at fault in one way
abbrev pub paths : (FormFault → Bool) → List Found → List (List ℕ)
paths is_so found = map (λ f. f.1) (filter (λ f. is_so f.0) found)

-- the least path for each way, with one more
abbrev pub noted : FormFaults → Found → FormFaults
noted faults (fault.Unknown, path) = record faults { unknown = lesser_text faults.unknown path }
noted faults (fault.Missing, path) = record faults { missing = lesser_text faults.missing path }
noted faults (fault.WrongKind, path) = record faults { wrong_kind = lesser_text faults.wrong_kind path }

abbrev pub nothing_noted : FormFaults
nothing_noted = record { unknown = None; missing = None; wrong_kind = None }
