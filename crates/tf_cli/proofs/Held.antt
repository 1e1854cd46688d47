-- What a run leaves of its file, by what a store keeps in its type.
use Rattle.std.proofs.Common.{◌≡◌, ℕ, List, Option, Some, None, ◌++◌, is_some, length, take, sym, ap, subst, ◌∙◌}
use Rattle.std.proofs.Math.Bool.{Bool-set}
use Rattle.std.proofs.Math.Logic.{∥∥₁_elim}
use Rattle.std.proofs.Math.Seq.{take-append_seam}
use mathlib.Core.Logic.{∥∥₁_map}
use mathlib.Core.List.{IsPrefix}
use Rattle.tf_model.specs.declared.entry.Entry.{Entry}
use Rattle.tf_disk.specs.Disk.{Meaning}
use Rattle.tf_journal.specs.declared.state.Journal.{Journal}
use Rattle.tf_journal.specs.Standing.{broken_at, disk_of, file_len, opened_at}
use Rattle.tf_store.specs.Crashes.{Keeps}
use Rattle.tf_store.specs.Standing.{IsKnown, KnownAt}
use Rattle.tf_cli.specs.Top.{HoldsAll, MayHold}

front_is : {A : Type 0} (xs ys : List A) → IsPrefix xs ys → take (length xs) ys ≡ xs
front_is xs ys p = ap (take (length xs)) (sym p.1) ∙ take-append_seam xs p.0

-- whether the disk tells its bytes is as it was at the opening's first sync
module _ {D : Type 0} (m : Meaning D) (held failed : List Entry) where
  tells_at : (broken : Option ℕ) (synced : D) (first : List Entry) (len : ℕ) (disk : D) → KnownAt broken m synced first held failed len disk → is_some (m.seen disk) ≡ is_some (m.seen synced)
  tells_at None synced first len disk known = known.1.since.tells
  tells_at (Some at) synced first len disk known = known.1.since.tells

  pub tells_so : (found : ℕ) (journal : Journal D) → ∥ IsKnown m found held failed journal ∥₁ → is_some (m.seen (disk_of journal)) ≡ is_some (m.seen (opened_at journal))
  tells_so found journal known = ∥∥₁_elim known (hlevel Bool-set) (λ (known : IsKnown m found held failed journal).
      tells_at (broken_at journal) (opened_at journal) (take found held) (file_len journal) (disk_of journal) known.crashes)

module _ {D : Type 0} (m : Meaning D) (first last failed : List Entry) (found : ℕ) (journal : Journal D) (count : found ≡ length first) (begun : IsPrefix first last) (known : ∥ IsKnown m found last failed journal ∥₁) where
  found_is : take found last ≡ first
  found_is = ap (λ n. take n last) count ∙ front_is first last begun

  pub holds_all : broken_at journal ≡ None → ∥ HoldsAll m (opened_at journal) first last (file_len journal) (disk_of journal) ∥₁
  holds_all sound = ∥∥₁_map known (λ known.
      let now : KnownAt None m (opened_at journal) (take found last) last failed (file_len journal) (disk_of journal) =
      subst (λ (b : Option ℕ). KnownAt b m (opened_at journal) (take found last) last failed (file_len journal) (disk_of journal)) sound known.crashes in
      record { stands = now.0; keeps = subst (λ (l : List Entry). Keeps m (opened_at journal) l last (disk_of journal)) found_is now.1 })

  pub may_hold : (at : ℕ) → broken_at journal ≡ Some at → ∥ MayHold m (opened_at journal) first last failed (disk_of journal) ∥₁
  may_hold at broke = ∥∥₁_map known (λ known.
      let now : KnownAt (Some at) m (opened_at journal) (take found last) last failed (file_len journal) (disk_of journal) =
      subst (λ (b : Option ℕ). KnownAt b m (opened_at journal) (take found last) last failed (file_len journal) (disk_of journal)) broke known.crashes in
      record { now = now.0; keeps = subst (λ (l : List Entry). Keeps m (opened_at journal) l (last ++ failed) (disk_of journal)) found_is now.1 })
