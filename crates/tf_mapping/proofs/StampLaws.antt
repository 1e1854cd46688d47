-- A document with its stamp.
use Rattle.std.proofs.Common.{◌≡◌, ℕ, suc, ◌<◌, ℤ, pos, negsuc, List, [], ◌∷◌, ◌++◌, length, take, drop, get_or, set, Some, IsUtf8, FitsSigned, w64, sym, ap, ◌∙◌, refl, subst, arith}
use Rattle.std.specs.Cmp.Lexicographic.{slice_cmp, nat_list_cmp_total}
use Rattle.std.specs.declared.cmp.Ordering.{Ordering}
use Rattle.std.specs.declared.cmp.Ordering.TheVariants.{Less, Equal, Greater}
use Rattle.std.specs.List.{AllByRecursion}
use Rattle.std.specs.Ordering.{nat_cmp, match_ordering, ordering_reverse}
use Rattle.std.proofs.Math.Seq.{drop-cons}
use Rattle.std.proofs.lemmas.List.{set_split}
use Rattle.std.proofs.lemmas.Map.Lookups.{exact_bytes}
use Rattle.tf_model.specs.declared.tree.Tree.{Tree, out-Tree, out-roll-Tree}
use Rattle.tf_model.specs.declared.tree.Tree.TheOpen.{Tree-F}
use Rattle.tf_model.specs.declared.tree.Tree.TheVariants as t
use Rattle.tf_model.specs.Lines.{IsWhole, IsBelow, NamesAscend, IsLevel, IsLineWithin, IsLine}
use Rattle.tf_model.specs.Trees.{members_level, members_in}
use Rattle.tf_mapping.specs.Stamps.{with_member}

abbrev Member : Type 0
Member = List ℕ × Tree

-- ---- the place of a member
equal_placed : (members rest : List Member) (at : ℕ) (name : List ℕ) (tree : Tree) (m : Member) → at < length members → m ≡ get_or members at m → slice_cmp nat_cmp name m.0 ≡ Equal
    → with_member members name tree ≡ take at members ++ with_member (drop at members) name tree → with_member members name tree ≡ set members at (name, tree)
equal_placed members rest at name tree m within is equal so_far =
    so_far
    ∙ ap (λ l. take at members ++ with_member l name tree) (drop-cons members at m within ∙ ap (λ (first : Member). first ∷ drop (suc at) members) (sym is))
    ∙ ap (λ o. take at members ++ match_ordering o ((name, tree) ∷ m ∷ drop (suc at) members) ((m.0, tree) ∷ drop (suc at) members) (m ∷ with_member (drop (suc at) members) name tree)) equal
    ∙ ap (λ (same : List ℕ). take at members ++ (same, tree) ∷ drop (suc at) members) (sym (exact_bytes name m.0 equal))
    ∙ sym (set_split members at (name, tree) within)

pub equal_at : (members : List Member) (at : ℕ) (name : List ℕ) (m : Member) → at < length members → m ≡ get_or members at m → slice_cmp nat_cmp name m.0 ≡ Equal
    → ((tree : Tree) → with_member members name tree ≡ take at members ++ with_member (drop at members) name tree) → (tree : Tree) → with_member members name tree ≡ set members at (name, tree)
equal_at members at name m within is equal so_far tree = equal_placed members members at name tree m within is equal (so_far tree)

-- ---- the result is a line
abbrev placed : Ordering → Member → List Member → List ℕ → Tree → List Member
placed o m members name tree = match_ordering o ((name, tree) ∷ m ∷ members) ((m.0, tree) ∷ members) (m ∷ with_member members name tree)

below_more : (a b : List ℕ) (members : List Member) → slice_cmp nat_cmp a b ≡ Less → IsBelow b members → IsBelow a members
below_more a b [] less below = tt
below_more a b (m ∷ members) less below = (nat_list_cmp_total.trans a b m.0 less below.0, below_more a b members less below.1)

below_placed : (o : Ordering) (first : List ℕ) (m : Member) (members : List Member) (name : List ℕ) (tree : Tree) → slice_cmp nat_cmp first name ≡ Less → IsBelow first (m ∷ members)
    → IsBelow first (with_member members name tree) → IsBelow first (placed o m members name tree)
below_placed Less first m members name tree less below later = (less, below)
below_placed Equal first m members name tree less below later = below
below_placed Greater first m members name tree less below later = (below.0, later)

below_with : (first : List ℕ) (members : List Member) (name : List ℕ) (tree : Tree) → slice_cmp nat_cmp first name ≡ Less → IsBelow first members → IsBelow first (with_member members name tree)
below_with first [] name tree less below = (less, tt)
below_with first (m ∷ members) name tree less below = below_placed (slice_cmp nat_cmp name m.0) first m members name tree less below (below_with first members name tree less below.1)

ascend_placed : (o : Ordering) (m : Member) (members : List Member) (name : List ℕ) (tree : Tree) → slice_cmp nat_cmp name m.0 ≡ o → NamesAscend (m ∷ members)
    → NamesAscend (with_member members name tree) → NamesAscend (placed o m members name tree)
ascend_placed Less m members name tree is ascend later = ((is, below_more name m.0 members is ascend.0), ascend)
ascend_placed Equal m members name tree is ascend later = ascend
ascend_placed Greater m members name tree is ascend later = (below_with m.0 members name tree (nat_list_cmp_total.antisymm m.0 name ∙ ap ordering_reverse is) ascend.0, later)

ascend_with : (members : List Member) (name : List ℕ) (tree : Tree) → NamesAscend members → NamesAscend (with_member members name tree)
ascend_with [] name tree ascend = (tt, tt)
ascend_with (m ∷ members) name tree ascend = ascend_placed (slice_cmp nat_cmp name m.0) m members name tree refl ascend (ascend_with members name tree ascend.1)

abbrev AreMembers : (Tree → Type 0) → List Member → Type 0
AreMembers Inner members = AllByRecursion (λ (m : Member). IsUtf8 m.0 × Inner m.1) members

all_placed : (Inner : Tree → Type 0) (o : Ordering) (m : Member) (members : List Member) (name : List ℕ) (tree : Tree) → IsUtf8 name → Inner tree → AreMembers Inner (m ∷ members)
    → AreMembers Inner (with_member members name tree) → AreMembers Inner (placed o m members name tree)
all_placed Inner Less m members name tree utf8 inner all later = ((utf8, inner), all)
all_placed Inner Equal m members name tree utf8 inner all later = ((all.0.0, inner), all.1)
all_placed Inner Greater m members name tree utf8 inner all later = (all.0, later)

all_with : (Inner : Tree → Type 0) (members : List Member) (name : List ℕ) (tree : Tree) → IsUtf8 name → Inner tree → AreMembers Inner members → AreMembers Inner (with_member members name tree)
all_with Inner [] name tree utf8 inner all = ((utf8, inner), tt)
all_with Inner (m ∷ members) name tree utf8 inner all = all_placed Inner (slice_cmp nat_cmp name m.0) m members name tree utf8 inner all (all_with Inner members name tree utf8 inner all.1)

level_members : (Inner : Tree → Type 0) (y : Tree-F Tree) (members : List Member) → members_level y ≡ Some members → IsLevel Inner y → NamesAscend members × AreMembers Inner members
level_members Inner Tree-F.Null members is level = absurd (cc)
level_members Inner (Tree-F.Bool b) members is level = absurd (cc)
level_members Inner (Tree-F.Num n) members is level = absurd (cc)
level_members Inner (Tree-F.Str s) members is level = absurd (cc)
level_members Inner (Tree-F.Arr items) members is level = absurd (cc)
level_members Inner (Tree-F.Obj inside) members is level =
    let same : inside ≡ members = cc in
    subst (λ (l : List Member). NamesAscend l × AreMembers Inner l) same level

number_within : (nesting : ℕ) (ms : ℤ) → IsWhole ms → IsLineWithin (suc nesting) (t.Num ms)
unfolding IsLineWithin
number_within nesting ms whole = subst (IsLevel (IsLineWithin nesting)) (sym (ap out-Tree (sym (t.rolls-Num ms)) ∙ out-roll-Tree (Tree-F.Num ms))) whole

within_with : (nesting : ℕ) (tree : Tree) (members : List Member) (path : List ℕ) (ms : ℤ) → members_in tree ≡ Some members → IsUtf8 path → IsWhole ms
    → IsLineWithin (suc (suc nesting)) tree → IsLineWithin (suc (suc nesting)) (t.Obj (with_member members path (t.Num ms)))
unfolding IsLineWithin members_in
within_with nesting tree members path ms is utf8 whole line =
    let parts = level_members (IsLineWithin (suc nesting)) (out-Tree tree) members is line in
    let all = with_member members path (t.Num ms) in
    subst (IsLevel (IsLineWithin (suc nesting))) (sym (ap out-Tree (sym (t.rolls-Obj all)) ∙ out-roll-Tree (Tree-F.Obj all)))
    (ascend_with members path (t.Num ms) parts.0, all_with (IsLineWithin (suc nesting)) members path (t.Num ms) utf8 (number_within nesting ms whole) parts.1)

pub line_stamped : (tree : Tree) (members : List Member) (path : List ℕ) (ms : ℤ) → members_in tree ≡ Some members → IsUtf8 path → IsWhole ms
    → IsLine tree → IsLine (t.Obj (with_member members path (t.Num ms)))
unfolding IsLine
line_stamped tree members path ms is utf8 whole line = within_with 125 tree members path ms is utf8 whole line

pub whole_i64 : (ms : ℤ) → FitsSigned w64 ms → IsWhole ms
whole_i64 (pos n) fits = omega arith
whole_i64 (negsuc n) fits = omega arith
