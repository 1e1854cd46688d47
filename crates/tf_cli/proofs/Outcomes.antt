-- What a run over a file leaves, by its status.
use Rattle.std.proofs.Common.{◌≡◌, ◌≢◌, ◌⊎◌, ℕ, List, Option, arith, subst, inl, inr, refl}
use Rattle.tf_model.specs.Causes.{Rose}
use Rattle.tf_io.specs.Reads.{ReadsLines}
use Rattle.tf_disk.specs.Disk.{Meaning}
use Rattle.tf_store.specs.Answers.{LeavesContent}
use Rattle.tf_cli.specs.Top.{AfterOpening, FailedToOpen, HasNoDetail, IsDamaged, IsLeft, IsRunStatus, NotWritten, OfScript, Ran, RanPartly, StoppedByDisk, StoppedFull, StoppedShort, ended, max_script}
use Rattle.tf_cli.specs.declared.outcome.Outcome.{Outcome}
use Rattle.tf_cli.specs.declared.outcome.Outcome.TheVariants as outcome

pub of_script : (before now : Option (List ℕ)) (lines : List (List ℕ)) (P : List (List ℕ) → Type 0) → ReadsLines before now max_script lines → P lines → OfScript before now P
of_script before now lines P reads holds = record { script = reads.0; read = reads.1; then = subst P reads.2 holds }

pub status_is : (o : Outcome) → IsRunStatus (ended o).status
status_is outcome.Done = inl refl
status_is (outcome.WriteFault taken) = inr (inr (inr (inl refl)))
status_is (outcome.DiskFault entries) = inr (inr (inr (inr (inl refl))))
status_is (outcome.Damaged frame) = inr (inr (inr (inr (inr (inl refl)))))
status_is outcome.Memory = inr (inr (inr (inr (inr (inr (inr (inl refl)))))))
status_is (outcome.Full len) = inr (inr (inr (inr (inr (inr (inr (inr refl)))))))

-- no run over a file ends with one of these
pub not_of_file : (o : Outcome) → ((ended o).status ≡ 2) ⊎ (((ended o).status ≡ 3) ⊎ ((ended o).status ≡ 7)) → ⊥
not_of_file outcome.Done (inl is) = omega (arith, is)
not_of_file outcome.Done (inr (inl is)) = omega (arith, is)
not_of_file outcome.Done (inr (inr is)) = omega (arith, is)
not_of_file (outcome.WriteFault taken) (inl is) = omega (arith, is)
not_of_file (outcome.WriteFault taken) (inr (inl is)) = omega (arith, is)
not_of_file (outcome.WriteFault taken) (inr (inr is)) = omega (arith, is)
not_of_file (outcome.DiskFault entries) (inl is) = omega (arith, is)
not_of_file (outcome.DiskFault entries) (inr (inl is)) = omega (arith, is)
not_of_file (outcome.DiskFault entries) (inr (inr is)) = omega (arith, is)
not_of_file (outcome.Damaged frame) (inl is) = omega (arith, is)
not_of_file (outcome.Damaged frame) (inr (inl is)) = omega (arith, is)
not_of_file (outcome.Damaged frame) (inr (inr is)) = omega (arith, is)
not_of_file outcome.Memory (inl is) = omega (arith, is)
not_of_file outcome.Memory (inr (inl is)) = omega (arith, is)
not_of_file outcome.Memory (inr (inr is)) = omega (arith, is)
not_of_file (outcome.Full len) (inl is) = omega (arith, is)
not_of_file (outcome.Full len) (inr (inl is)) = omega (arith, is)
not_of_file (outcome.Full len) (inr (inr is)) = omega (arith, is)

-- a run over a file that ends without a detail tells 0
pub run_no_detail : (o : Outcome) → HasNoDetail (ended o).status → (ended o).detail ≡ 0
run_no_detail outcome.Done none = refl
run_no_detail (outcome.WriteFault taken) (inl is) = absurd (omega (arith, is))
run_no_detail (outcome.WriteFault taken) (inr (inl is)) = absurd (omega (arith, is))
run_no_detail (outcome.WriteFault taken) (inr (inr is)) = absurd (omega (arith, is))
run_no_detail (outcome.DiskFault entries) (inl is) = absurd (omega (arith, is))
run_no_detail (outcome.DiskFault entries) (inr (inl is)) = absurd (omega (arith, is))
run_no_detail (outcome.DiskFault entries) (inr (inr is)) = absurd (omega (arith, is))
run_no_detail (outcome.Damaged frame) (inl is) = absurd (omega (arith, is))
run_no_detail (outcome.Damaged frame) (inr (inl is)) = absurd (omega (arith, is))
run_no_detail (outcome.Damaged frame) (inr (inr is)) = absurd (omega (arith, is))
run_no_detail outcome.Memory none = refl
run_no_detail (outcome.Full len) (inl is) = absurd (omega (arith, is))
run_no_detail (outcome.Full len) (inr (inl is)) = absurd (omega (arith, is))
run_no_detail (outcome.Full len) (inr (inr is)) = absurd (omega (arith, is))

pub not_written : (P : Type 0) (o : Outcome) → NotWritten o P → (ended o).status ≢ 0 → (ended o).status ≢ 4 → P
not_written P outcome.Done h none other = absurd (none refl)
not_written P (outcome.WriteFault taken) h none other = absurd (other refl)
not_written P (outcome.DiskFault entries) h none other = h
not_written P (outcome.Damaged frame) h none other = h
not_written P outcome.Memory h none other = h
not_written P (outcome.Full len) h none other = h

module _ {D : Type 0} (m : Meaning D) (before now : D) (written_before written_now : Option (List ℕ)) (sink_before sink_now : ℕ) (lines : List (List ℕ)) where
  abbrev Left : Outcome → Type 0
  Left o = IsLeft m before now written_before written_now sink_before sink_now lines o

  pub done : (o : Outcome) → Left o → (ended o).status ≡ 0 → AfterOpening m before (λ synced. Ran m synced now written_before written_now (λ output. output) lines)
  done outcome.Done left is = left
  done (outcome.WriteFault taken) left is = absurd (omega (arith, is))
  done (outcome.DiskFault entries) left is = absurd (omega (arith, is))
  done (outcome.Damaged frame) left is = absurd (omega (arith, is))
  done outcome.Memory left is = absurd (omega (arith, is))
  done (outcome.Full len) left is = absurd (omega (arith, is))

  pub write_fault : (o : Outcome) → Left o → (ended o).status ≡ 4 → Rose sink_before sink_now × AfterOpening m before (λ synced. RanPartly m synced now written_before written_now (ended o).detail lines)
  write_fault outcome.Done left is = absurd (omega (arith, is))
  write_fault (outcome.WriteFault taken) left is = left
  write_fault (outcome.DiskFault entries) left is = absurd (omega (arith, is))
  write_fault (outcome.Damaged frame) left is = absurd (omega (arith, is))
  write_fault outcome.Memory left is = absurd (omega (arith, is))
  write_fault (outcome.Full len) left is = absurd (omega (arith, is))

  pub disk_fault : (o : Outcome) → Left o → (ended o).status ≡ 5 → Rose (m.faults before) (m.faults now) × (FailedToOpen m before now (ended o).detail ⊎ AfterOpening m before (λ synced. StoppedByDisk m synced now (ended o).detail lines))
  disk_fault outcome.Done left is = absurd (omega (arith, is))
  disk_fault (outcome.WriteFault taken) left is = absurd (omega (arith, is))
  disk_fault (outcome.DiskFault entries) left is = left
  disk_fault (outcome.Damaged frame) left is = absurd (omega (arith, is))
  disk_fault outcome.Memory left is = absurd (omega (arith, is))
  disk_fault (outcome.Full len) left is = absurd (omega (arith, is))

  pub damaged : (o : Outcome) → Left o → (ended o).status ≡ 6 → IsDamaged m before now (ended o).detail
  damaged outcome.Done left is = absurd (omega (arith, is))
  damaged (outcome.WriteFault taken) left is = absurd (omega (arith, is))
  damaged (outcome.DiskFault entries) left is = absurd (omega (arith, is))
  damaged (outcome.Damaged frame) left is = left
  damaged outcome.Memory left is = absurd (omega (arith, is))
  damaged (outcome.Full len) left is = absurd (omega (arith, is))

  pub memory : (o : Outcome) → Left o → (ended o).status ≡ 8 → LeavesContent m before now ⊎ AfterOpening m before (λ synced. StoppedShort m synced now lines)
  memory outcome.Done left is = absurd (omega (arith, is))
  memory (outcome.WriteFault taken) left is = absurd (omega (arith, is))
  memory (outcome.DiskFault entries) left is = absurd (omega (arith, is))
  memory (outcome.Damaged frame) left is = absurd (omega (arith, is))
  memory outcome.Memory left is = left
  memory (outcome.Full len) left is = absurd (omega (arith, is))

  pub full : (o : Outcome) → Left o → (ended o).status ≡ 9 → AfterOpening m before (λ synced. StoppedFull m synced now (ended o).detail lines)
  full outcome.Done left is = absurd (omega (arith, is))
  full (outcome.WriteFault taken) left is = absurd (omega (arith, is))
  full (outcome.DiskFault entries) left is = absurd (omega (arith, is))
  full (outcome.Damaged frame) left is = absurd (omega (arith, is))
  full outcome.Memory left is = absurd (omega (arith, is))
  full (outcome.Full len) left is = left
