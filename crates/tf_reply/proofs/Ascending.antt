-- The members of an object ascend by name.
use Rattle.std.proofs.Common.{◌≡◌, ℕ, List, [], ◌∷◌, ap, ◌∙◌, refl}
use Rattle.std.specs.Cmp.Lexicographic.{slice_cmp, nat_list_cmp_total}
use Rattle.std.specs.declared.cmp.Ordering.{Ordering}
use Rattle.std.specs.declared.cmp.Ordering.TheVariants.{Less, Equal, Greater}
use Rattle.std.specs.Ordering.{nat_cmp, match_ordering, ordering_reverse}
use Rattle.tf_model.specs.Lines.{IsBelow, NamesAscend}
use Rattle.tf_reply.specs.Objects.{Member, by_name, with_member}

abbrev placed : Ordering → Member → List Member → Member → List Member
placed o m members more = match_ordering o (more ∷ m ∷ members) ((m.0, more.1) ∷ members) (m ∷ with_member members more)

below_more : (a b : List ℕ) (members : List Member) → slice_cmp nat_cmp a b ≡ Less → IsBelow b members → IsBelow a members
below_more a b [] less below = tt
below_more a b (m ∷ members) less below = (nat_list_cmp_total.trans a b m.0 less below.0, below_more a b members less below.1)

below_placed : (o : Ordering) (first : List ℕ) (m : Member) (members : List Member) (more : Member) → slice_cmp nat_cmp first more.0 ≡ Less → IsBelow first (m ∷ members)
    → IsBelow first (with_member members more) → IsBelow first (placed o m members more)
below_placed Less first m members more less below later = (less, below)
below_placed Equal first m members more less below later = below
below_placed Greater first m members more less below later = (below.0, later)

below_with : (first : List ℕ) (members : List Member) (more : Member) → slice_cmp nat_cmp first more.0 ≡ Less → IsBelow first members → IsBelow first (with_member members more)
below_with first [] more less below = (less, tt)
below_with first (m ∷ members) more less below = below_placed (slice_cmp nat_cmp more.0 m.0) first m members more less below (below_with first members more less below.1)

ascend_placed : (o : Ordering) (m : Member) (members : List Member) (more : Member) → slice_cmp nat_cmp more.0 m.0 ≡ o → NamesAscend (m ∷ members)
    → NamesAscend (with_member members more) → NamesAscend (placed o m members more)
ascend_placed Less m members more is ascend later = ((is, below_more more.0 m.0 members is ascend.0), ascend)
ascend_placed Equal m members more is ascend later = ascend
ascend_placed Greater m members more is ascend later = (below_with m.0 members more (nat_list_cmp_total.antisymm m.0 more.0 ∙ ap ordering_reverse is) ascend.0, later)

ascend_with : (members : List Member) (more : Member) → NamesAscend members → NamesAscend (with_member members more)
ascend_with [] more ascend = (tt, tt)
ascend_with (m ∷ members) more ascend = ascend_placed (slice_cmp nat_cmp more.0 m.0) m members more refl ascend (ascend_with members more ascend.1)

pub ascend_by_name : (members : List Member) → NamesAscend (by_name members)
ascend_by_name [] = tt
ascend_by_name (m ∷ members) = ascend_with (by_name members) m (ascend_by_name members)
