-- A tree has members where its value is an object.
use Rattle.std.proofs.Common.{◌≡◌, ℕ, List, Bool, true, false, Some, Ok, Err, ap, sym, ◌∙◌}
use Rattle.std.specs.Prelude.{pos, is_some}
use Rattle.serde_json.specs.Data.{Num, unsigned, negative, float, Data, null, boolean, number, string, array, object}
use Rattle.serde_json.specs.Find.{as_object}
use Rattle.tf_model.specs.declared.tree.Tree.{Tree}
use Rattle.tf_model.specs.declared.tree.Tree.TheOpen.{Tree-F}
use Rattle.tf_model.specs.declared.tree.Tree.TheVariants as t
use Rattle.tf_model.specs.Trees.{members_level, members_in}
use Rattle.tf_json.specs.Reading.{Reads, tree_of, tree_of_number, trees_of, members_of, map_reads}

-- whether one level of a tree has members
abbrev has_members : Tree-F Tree → Bool
has_members level = is_some (members_level level)

array_has_none : (r : Reads (List Tree)) (x : Tree) → map_reads t.Arr r ≡ Ok x → is_some (members_in x) ≡ false
unfolding members_in
array_has_none (Ok xs) x e = let same : t.Arr xs ≡ x = cc in ap (λ y. is_some (members_in y)) (sym same) ∙ ap has_members (t.outs-Arr xs)
array_has_none (Err p) x e = absurd (cc)

object_has_some : (r : Reads (List (List ℕ × Tree))) (x : Tree) → map_reads t.Obj r ≡ Ok x → is_some (members_in x) ≡ true
unfolding members_in
object_has_some (Ok ms) x e = let same : t.Obj ms ≡ x = cc in ap (λ y. is_some (members_in y)) (sym same) ∙ ap has_members (t.outs-Obj ms)
object_has_some (Err p) x e = absurd (cc)

number_has_none : (n : Num) (x : Tree) → tree_of_number n ≡ Ok x → is_some (members_in x) ≡ false
unfolding members_in
number_has_none (unsigned n) x e = let same : t.Num (pos n) ≡ x = cc in ap (λ y. is_some (members_in y)) (sym same) ∙ ap has_members (t.outs-Num (pos n))
number_has_none (negative z) x e = let same : t.Num z ≡ x = cc in ap (λ y. is_some (members_in y)) (sym same) ∙ ap has_members (t.outs-Num z)
number_has_none (float f) x e = absurd (cc)

pub object_is_kept : (d : Data) (x : Tree) → tree_of d ≡ Ok x → is_some (members_in x) ≡ is_some (as_object d)
unfolding members_in
object_is_kept null x e = let same : t.Null ≡ x = cc in ap (λ y. is_some (members_in y)) (sym same) ∙ ap has_members t.outs-Null
object_is_kept (boolean b) x e = let same : t.Bool b ≡ x = cc in ap (λ y. is_some (members_in y)) (sym same) ∙ ap has_members (t.outs-Bool b)
object_is_kept (number n) x e = number_has_none n x e
object_is_kept (string s) x e = let same : t.Str s ≡ x = cc in ap (λ y. is_some (members_in y)) (sym same) ∙ ap has_members (t.outs-Str s)
object_is_kept (array ds) x e = array_has_none (trees_of 0 ds) x e
object_is_kept (object ms) x e = object_has_some (members_of ms) x e
