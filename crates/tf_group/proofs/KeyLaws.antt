-- The key that a tree is, is the one key by the configuration that prints as it.
use Rattle.std.proofs.Common.{◌≡◌, ◌≢◌, ℕ, suc, ℤ, length, Bool, true, false, cond, List, [], ◌∷◌, map, Option, Some, None, ap, ap₂, ◌∙◌, refl, subst, arith}
use Rattle.std.specs.Option.{option_map, option_and_then}
use Rattle.std.proofs.lemmas.Int.{ints}
use Rattle.tf_model.specs.declared.value.Value.{Value}
use Rattle.tf_model.specs.declared.value.Value.TheVariants as value
use Rattle.tf_model.specs.declared.value.Key.{Key}
use Rattle.tf_model.specs.declared.tree.Tree.{Tree}
use Rattle.tf_model.specs.declared.tree.Tree.TheVariants as tree
use Rattle.tf_model.specs.declared.config.Config.{Config}
use Rattle.tf_model.specs.declared.query.Mapping.{Mapping}
use Rattle.tf_model.specs.declared.query.FieldType.{FieldType}
use Rattle.tf_model.specs.declared.query.FieldType.TheVariants.{Keyword, Long, Boolean, Date}
use Rattle.tf_model.specs.Conditions.{IsDate}
use Rattle.tf_model.specs.Keys.{key_from}
use Rattle.tf_model.specs.Trees.{text_in, number_in, truth_in, items_in}
use Rattle.tf_time.specs.Dates.{is_date}
use Rattle.tf_group.specs.Ids.{part_tree}
use Rattle.tf_group.specs.Reading.{part_types, IsPart, AreParts, IsKeyOf, IsTheKey, is_null, date_in, value_in, part_in, parts_in, key_in}
use Rattle.tf_group.proofs.TreeLaws.{null_null, null_bool, null_number, null_text, truth_bool, number_number, text_text, items_array, is_null_tree, truth_tree, number_tree, text_tree, items_tree}

-- whether a part is what a tree is
abbrev Fits : Option FieldType → Tree → Value → Type 0
Fits type t v = IsPart type v × (part_tree v ≡ t)

date_taken : (n : ℤ) → IsDate n → is_date n ≡ true
date_taken n h = grind (arith, ints)

date_given : (n : ℤ) → is_date n ≡ true → IsDate n
date_given n e = grind (arith, ints)

date_number : (n : ℤ) → IsDate n → date_in (tree.Num n) ≡ Some n
date_number n h = ap (option_and_then (λ m. cond (is_date m) (Some m) None)) (number_number n) ∙ ap (λ b. cond b (Some n) None) (date_taken n h)

-- each part is read from its tree

pub part_read : (type : Option FieldType) (v : Value) → IsPart type v → part_in type (part_tree v) ≡ Some v
part_read type value.Null h = ap (λ b. cond b (Some value.Null) (value_in type tree.Null)) null_null
part_read type (value.Bool b) h = ap₂ (λ null ty. cond null (Some value.Null) (value_in ty (tree.Bool b))) (null_bool b) h ∙ ap (option_map value.Bool) (truth_bool b)
part_read type (value.Int n) h = ap₂ (λ null ty. cond null (Some value.Null) (value_in ty (tree.Num n))) (null_number n) h ∙ ap (option_map value.Int) (number_number n)
part_read type (value.Date ms) h = ap₂ (λ null ty. cond null (Some value.Null) (value_in ty (tree.Num ms))) (null_number ms) h.0 ∙ ap (option_map value.Date) (date_number ms h.1)
part_read type (value.Str s) h = ap₂ (λ null ty. cond null (Some value.Null) (value_in ty (tree.Str s))) (null_text s) h ∙ ap (option_map value.Str) (text_text s)

parts_read : (types : List (Option FieldType)) (parts : List Value) → AreParts types parts → parts_in types (map part_tree parts) ≡ Some parts
parts_read [] [] h = refl
parts_read [] (part ∷ parts) h = absurd h
parts_read (type ∷ types) [] h = absurd h
parts_read (type ∷ types) (part ∷ parts) h =
    ap (option_and_then (λ v. option_map (λ vs. v ∷ vs) (parts_in types (map part_tree parts)))) (part_read type part h.0)
    ∙ ap (option_map (λ vs. part ∷ vs)) (parts_read types parts h.1)

none_then : {A B : Type 0} (found : Option A) → option_and_then {T = A} {U = B} (λ v. None) found ≡ None
none_then None = refl
none_then (Some v) = refl

pub unlike_lengths : (types : List (Option FieldType)) (trees : List Tree) → length types ≢ length trees → parts_in types trees ≡ None
unlike_lengths [] [] h = absurd (h refl)
unlike_lengths [] (t ∷ trees) h = refl
unlike_lengths (type ∷ types) [] h = refl
unlike_lengths (type ∷ types) (t ∷ trees) h =
    let rest : parts_in types trees ≡ None = unlike_lengths types trees (λ e. h (ap (λ n. suc n) e)) in
    ap (λ found. option_and_then (λ v. option_map (λ vs. v ∷ vs) found) (part_in type t)) rest ∙ none_then (part_in type t)

-- what is read fits

truth_fits : (t : Tree) (found : Option Bool) (v : Value) → truth_in t ≡ found → option_map value.Bool found ≡ Some v → Fits (Some Boolean) t v
truth_fits t None v e h = absurd (cc)
truth_fits t (Some b) v e h = let same : value.Bool b ≡ v = cc in subst (Fits (Some Boolean) t) same (refl, truth_tree t b e)

number_fits : (t : Tree) (found : Option ℤ) (v : Value) → number_in t ≡ found → option_map value.Int found ≡ Some v → Fits (Some Long) t v
number_fits t None v e h = absurd (cc)
number_fits t (Some n) v e h = let same : value.Int n ≡ v = cc in subst (Fits (Some Long) t) same (refl, number_tree t n e)

date_of_test : (t : Tree) (n : ℤ) (test : Bool) (v : Value) → tree.Num n ≡ t → is_date n ≡ test → option_map value.Date (cond test (Some n) None) ≡ Some v → Fits (Some Date) t v
date_of_test t n false v e d h = absurd (cc)
date_of_test t n true v e d h = let same : value.Date n ≡ v = cc in subst (Fits (Some Date) t) same ((refl, date_given n d), e)

date_fits : (t : Tree) (found : Option ℤ) (v : Value) → number_in t ≡ found → option_map value.Date (option_and_then (λ n. cond (is_date n) (Some n) None) found) ≡ Some v → Fits (Some Date) t v
date_fits t None v e h = absurd (cc)
date_fits t (Some n) v e h = date_of_test t n (is_date n) v (number_tree t n e) refl h

text_fits : (t : Tree) (found : Option (List ℕ)) (v : Value) → text_in t ≡ found → option_map value.Str found ≡ Some v → Fits (Some Keyword) t v
text_fits t None v e h = absurd (cc)
text_fits t (Some s) v e h = let same : value.Str s ≡ v = cc in subst (Fits (Some Keyword) t) same (refl, text_tree t s e)

value_fits : (type : Option FieldType) (t : Tree) (v : Value) → value_in type t ≡ Some v → Fits type t v
value_fits None t v h = absurd (cc)
value_fits (Some Boolean) t v h = truth_fits t (truth_in t) v refl h
value_fits (Some Long) t v h = number_fits t (number_in t) v refl h
value_fits (Some Date) t v h = date_fits t (number_in t) v refl h
value_fits (Some Keyword) t v h = text_fits t (text_in t) v refl h

part_fits_if : (type : Option FieldType) (t : Tree) (test : Bool) (v : Value) → is_null t ≡ test → cond test (Some value.Null) (value_in type t) ≡ Some v → Fits type t v
part_fits_if type t true v e h = let same : value.Null ≡ v = cc in subst (Fits type t) same (tt, is_null_tree t e)
part_fits_if type t false v e h = value_fits type t v h

part_fits : (type : Option FieldType) (t : Tree) (v : Value) → part_in type t ≡ Some v → Fits type t v
part_fits type t v h = part_fits_if type t (is_null t) v refl h

abbrev AllFit : List (Option FieldType) → List Tree → List Value → Type 0
AllFit types trees parts = AreParts types parts × (map part_tree parts ≡ trees)

more_fit : (type : Option FieldType) (types : List (Option FieldType)) (t : Tree) (trees : List Tree) (part : Option Value) (rest : Option (List Value)) (parts : List Value)
    → ((vs : List Value) → rest ≡ Some vs → AllFit types trees vs) → part_in type t ≡ part → option_and_then (λ v. option_map (λ vs. v ∷ vs) rest) part ≡ Some parts → AllFit (type ∷ types) (t ∷ trees) parts
more_fit type types t trees None rest parts later e h = absurd (cc)
more_fit type types t trees (Some v) None parts later e h = absurd (cc)
more_fit type types t trees (Some v) (Some vs) parts later e h =
    let same : v ∷ vs ≡ parts = cc in
    let one = part_fits type t v e in
    let more = later vs refl in
    subst (AllFit (type ∷ types) (t ∷ trees)) same ((one.0, more.0), ap₂ (λ tree trees. tree ∷ trees) one.1 more.1)

parts_fit : (types : List (Option FieldType)) (trees : List Tree) (parts : List Value) → parts_in types trees ≡ Some parts → AllFit types trees parts
parts_fit [] [] parts h = let same : [] ≡ parts = cc in subst (AllFit [] []) same (tt, refl)
parts_fit [] (t ∷ trees) parts h = absurd (cc)
parts_fit (type ∷ types) [] parts h = absurd (cc)
parts_fit (type ∷ types) (t ∷ trees) parts h = more_fit type types t trees (part_in type t) (parts_in types trees) parts (parts_fit types trees) refl h

key_fits_from : (c : Config) (fields : Mapping) (t : Tree) (items : List Tree) (found : Option (List Value)) (k : Key)
    → tree.Arr items ≡ t → parts_in (part_types c fields) items ≡ found → option_map key_from found ≡ Some k → IsKeyOf c fields t k
key_fits_from c fields t items None k e f h = absurd (cc)
key_fits_from c fields t items (Some parts) k e f h =
    let same : key_from parts ≡ k = cc in
    let fit = parts_fit (part_types c fields) items parts f in
    subst (IsKeyOf c fields t) same (record { parts = fit.0; prints = ap tree.Arr fit.1 ∙ e })

key_fits : (c : Config) (fields : Mapping) (t : Tree) (found : Option (List Tree)) (k : Key)
    → items_in t ≡ found → option_map key_from (option_and_then (parts_in (part_types c fields)) found) ≡ Some k → IsKeyOf c fields t k
key_fits c fields t None k e h = absurd (cc)
key_fits c fields t (Some items) k e h = key_fits_from c fields t items (parts_in (part_types c fields) items) k (items_tree t items e) refl h

key_read : (c : Config) (fields : Mapping) (t : Tree) (k : Key) → IsKeyOf c fields t k → key_in c fields t ≡ Some k
key_read c fields t k h =
    subst (λ u. key_in c fields u ≡ Some k) h.prints
    (ap (λ items. option_map key_from (option_and_then (parts_in (part_types c fields)) items)) (items_array (map part_tree k.parts))
    ∙ ap (option_map key_from) (parts_read (part_types c fields) k.parts h.parts))

pub the_key : (c : Config) (fields : Mapping) (t : Tree) → IsTheKey c fields t (key_in c fields t)
the_key c fields t k = (key_read c fields t k, key_fits c fields t (items_in t) k refl)
