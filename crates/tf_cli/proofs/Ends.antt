-- How a reading of the source ends.
use Rattle.std.proofs.Common.{◌≡◌, ◌≢◌, ℕ, List, ◌≤◌, arith, inl, inr, refl}
use Rattle.std.specs.declared.option.Option.{Option}
use Rattle.tf_io.specs.Reads.{TakesCount, IsReadRefusal}
use Rattle.tf_io.specs.declared.lines.ReadError.{ReadError}
use Rattle.tf_io.specs.declared.lines.ReadError.TheVariants.{Memory, ReadFault, TooLong}
use Rattle.tf_cli.specs.Top.{HasNoDetail, reading_ended, max_script}

-- a reading that is refused for another reason than its length took no more than a script may have
pub not_too_long : (faults_before faults_now : ℕ) (before now : Option (List ℕ)) (error : ReadError) → IsReadRefusal faults_before faults_now before now max_script error → (reading_ended error).status ≢ 7
    → (count : ℕ) × (count ≤ max_script) × TakesCount before now count
not_too_long faults_before faults_now before now Memory refused other = refused
not_too_long faults_before faults_now before now (ReadFault taken) refused other = (taken, refused.1, refused.2)
not_too_long faults_before faults_now before now (TooLong taken) refused other = absurd (other refl)

-- a reading that ends without a detail tells 0
pub read_no_detail : (error : ReadError) → HasNoDetail (reading_ended error).status → (reading_ended error).detail ≡ 0
read_no_detail Memory none = refl
read_no_detail (ReadFault taken) (inl is) = absurd (omega (arith, is))
read_no_detail (ReadFault taken) (inr (inl is)) = absurd (omega (arith, is))
read_no_detail (ReadFault taken) (inr (inr is)) = absurd (omega (arith, is))
read_no_detail (TooLong taken) (inl is) = absurd (omega (arith, is))
read_no_detail (TooLong taken) (inr (inl is)) = absurd (omega (arith, is))
read_no_detail (TooLong taken) (inr (inr is)) = absurd (omega (arith, is))
