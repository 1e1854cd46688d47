-- An object of trees that a line can be is one too.
use Rattle.std.proofs.Common.{◌≡◌, ℕ, zero, suc, ◌^◌, ◌<◌, pos, List, [], ◌∷◌, ◌++◌, IsUtf8, sym, ap, ◌∙◌, subst, arith}
use Rattle.std.specs.Prelude.{codes}
use Rattle.std.specs.Cmp.Lexicographic.{slice_cmp}
use Rattle.std.specs.declared.cmp.Ordering.{Ordering}
use Rattle.std.specs.declared.cmp.Ordering.TheVariants.{Less, Equal, Greater}
use Rattle.std.specs.Option.{MatchOption}
use Rattle.std.specs.Ordering.{nat_cmp, match_ordering}
use Rattle.std.specs.Str.{IsAscii}
use Rattle.std.proofs.lemmas.Str.{IsUtf8-from_ascii}
use Rattle.tf_model.specs.declared.tree.Tree.{out-Tree, out-roll-Tree}
use Rattle.tf_model.specs.declared.tree.Tree.TheOpen.{Tree-F}
use Rattle.tf_model.specs.declared.tree.Tree.TheVariants as t
use Rattle.tf_model.specs.Lines.{IsLevel, IsLine, IsLineWithin, NamesAscend}
use Rattle.tf_model.specs.Trees.{members_level, members_in}
use Rattle.tf_reply.specs.Objects.{AreLines, HasOrderedNames, Member, by_name, count, object, placed, with_member}
use Rattle.tf_reply.proofs.Ascending.{ascend_by_name}

all_placed : (nesting : ℕ) (o : Ordering) (m : Member) (members : List Member) (more : Member) → IsUtf8 more.0 → IsLineWithin nesting more.1 → AreLines nesting (m ∷ members)
    → AreLines nesting (with_member members more) → AreLines nesting (match_ordering o (more ∷ m ∷ members) ((m.0, more.1) ∷ members) (m ∷ with_member members more))
all_placed nesting Less m members more utf8 line all later = ((utf8, line), all)
all_placed nesting Equal m members more utf8 line all later = ((all.0.0, line), all.1)
all_placed nesting Greater m members more utf8 line all later = (all.0, later)

all_with : (nesting : ℕ) (members : List Member) (more : Member) → IsUtf8 more.0 → IsLineWithin nesting more.1 → AreLines nesting members → AreLines nesting (with_member members more)
all_with nesting [] more utf8 line all = ((utf8, line), tt)
all_with nesting (m ∷ members) more utf8 line all =
    all_placed nesting (slice_cmp nat_cmp more.0 m.0) m members more utf8 line all (all_with nesting members more utf8 line all.1)

all_by_name : (nesting : ℕ) (members : List Member) → AreLines nesting members → AreLines nesting (by_name members)
all_by_name nesting [] all = tt
all_by_name nesting (m ∷ members) all = all_with nesting (by_name members) m all.0.0 all.0.1 (all_by_name nesting members all.1)

all_append : (nesting : ℕ) (members more : List Member) → AreLines nesting members → AreLines nesting more → AreLines nesting (members ++ more)
all_append nesting [] more all later = later
all_append nesting (m ∷ members) more all later = (all.0, all_append nesting members more all.1 later)

opened : (members : List Member) → out-Tree (t.Obj members) ≡ Tree-F.Obj members
opened members = ap out-Tree (sym (t.rolls-Obj members)) ∙ out-roll-Tree (Tree-F.Obj members)

object_within : (nesting : ℕ) (members : List Member) → AreLines nesting members → IsLineWithin (suc nesting) (object members)
unfolding IsLineWithin object
object_within nesting members all = subst (IsLevel (IsLineWithin nesting)) (sym (opened (by_name members))) (ascend_by_name members, all_by_name nesting members all)

count_within : (nesting n : ℕ) → n < 2 ^ 64 → IsLineWithin (suc nesting) (t.Num (pos n))
unfolding IsLineWithin
count_within nesting n whole = subst (IsLevel (IsLineWithin nesting)) (sym (ap out-Tree (sym (t.rolls-Num (pos n))) ∙ out-roll-Tree (Tree-F.Num (pos n)))) whole

ascii_more : (x : ℕ) (xs : List ℕ) → x < 128 → IsAscii xs → IsAscii (x ∷ xs)
ascii_more x xs small rest zero = small
ascii_more x xs small rest (suc i) = rest i

ascii_none : IsAscii []
ascii_none i = omega arith

line_is_text : IsUtf8 (codes "line")
line_is_text =
    IsUtf8-from_ascii (codes "line")
    (ascii_more 108 (105 ∷ 110 ∷ 101 ∷ []) (omega arith)
    (ascii_more 105 (110 ∷ 101 ∷ []) (omega arith) (ascii_more 110 (101 ∷ []) (omega arith) (ascii_more 101 [] (omega arith) ascii_none))))

no_is_text : IsUtf8 (codes "no")
no_is_text = IsUtf8-from_ascii (codes "no") (ascii_more 110 (111 ∷ []) (omega arith) (ascii_more 111 [] (omega arith) ascii_none))

pub placed_line : (line entries : ℕ) (members : List Member) → line < 2 ^ 64 → entries < 2 ^ 64 → AreLines 126 members → IsLine (placed line entries members)
unfolding IsLine
placed_line line entries members line_in entries_in all =
    object_within 126 (members ++ count (codes "line") line ∷ count (codes "no") entries ∷ [])
    (all_append 126 members (count (codes "line") line ∷ count (codes "no") entries ∷ []) all
    ((line_is_text, count_within 125 line line_in), ((no_is_text, count_within 125 entries entries_in), tt)))

object_is_ordered : (members : List Member) → HasOrderedNames (object members)
unfolding members_in object
object_is_ordered members = subst (λ y. MatchOption (members_level y) ⊥ NamesAscend) (sym (opened (by_name members))) (ascend_by_name members)

pub placed_is_ordered : (line entries : ℕ) (members : List Member) → HasOrderedNames (placed line entries members)
placed_is_ordered line entries members = object_is_ordered (members ++ count (codes "line") line ∷ count (codes "no") entries ∷ [])
