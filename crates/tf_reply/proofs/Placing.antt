-- Members that are placed one after the other, and the place of one.
use Rattle.std.proofs.Common.{◌≡◌, ℕ, suc, ◌<◌, List, [], ◌∷◌, ◌++◌, length, take, drop, get_or, set, sym, ap, ◌∙◌, refl}
use Rattle.std.specs.Cmp.Lexicographic.{slice_cmp}
use Rattle.std.specs.declared.cmp.Ordering.TheVariants.{Equal}
use Rattle.std.specs.Ordering.{nat_cmp, match_ordering}
use Rattle.std.proofs.Math.Seq.{drop-cons}
use Rattle.std.proofs.lemmas.List.{set_split}
use Rattle.std.proofs.lemmas.Map.Lookups.{exact_bytes}
use Rattle.tf_model.specs.declared.tree.Tree.{Tree}
use Rattle.tf_reply.specs.Objects.{Member, by_name, with_member}

-- ---- one after the other, the last one first
abbrev pub onto : List Member → List Member → List Member
onto sorted [] = sorted
onto sorted (m ∷ members) = with_member (onto sorted members) m

pub onto_none : (members : List Member) → onto [] members ≡ by_name members
onto_none [] = refl
onto_none (m ∷ members) = ap (λ sorted. with_member sorted m) (onto_none members)

onto_last : (sorted members : List Member) (m : Member) → onto sorted (members ++ m ∷ []) ≡ onto (with_member sorted m) members
onto_last sorted [] m = refl
onto_last sorted (first ∷ members) m = ap (λ later. with_member later first) (onto_last sorted members m)

pub onto_next : (sorted later members rest all : List Member) (m : Member) → members ≡ rest ++ m ∷ [] → later ≡ with_member sorted m → onto sorted members ≡ all → onto later rest ≡ all
onto_next sorted later members rest all m taken placed so_far = ap (λ l. onto l rest) placed ∙ sym (onto_last sorted rest m) ∙ ap (onto sorted) (sym taken) ∙ so_far

-- ---- the place of a member whose name is there
equal_placed : (members : List Member) (at : ℕ) (name : List ℕ) (tree : Tree) (m : Member) → at < length members → m ≡ get_or members at m → slice_cmp nat_cmp name m.0 ≡ Equal
    → with_member members (name, tree) ≡ take at members ++ with_member (drop at members) (name, tree) → with_member members (name, tree) ≡ set members at (name, tree)
equal_placed members at name tree m within is equal so_far =
    so_far
    ∙ ap (λ l. take at members ++ with_member l (name, tree)) (drop-cons members at m within ∙ ap (λ (first : Member). first ∷ drop (suc at) members) (sym is))
    ∙ ap (λ o. take at members ++ match_ordering o ((name, tree) ∷ m ∷ drop (suc at) members) ((m.0, tree) ∷ drop (suc at) members) (m ∷ with_member (drop (suc at) members) (name, tree))) equal
    ∙ ap (λ (same : List ℕ). take at members ++ (same, tree) ∷ drop (suc at) members) (sym (exact_bytes name m.0 equal))
    ∙ sym (set_split members at (name, tree) within)

pub equal_at : (members : List Member) (at : ℕ) (name : List ℕ) (m : Member) → at < length members → m ≡ get_or members at m → slice_cmp nat_cmp name m.0 ≡ Equal
    → ((tree : Tree) → with_member members (name, tree) ≡ take at members ++ with_member (drop at members) (name, tree)) → (tree : Tree) → with_member members (name, tree) ≡ set members at (name, tree)
equal_at members at name m within is equal so_far tree = equal_placed members at name tree m within is equal (so_far tree)
