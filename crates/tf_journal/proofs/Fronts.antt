-- The front of a file that was read so far.
use Rattle.std.proofs.Common.{◌≡◌, ℕ, zero, suc, ◌+◌, ◌<◌, ◌≤◌, List, [], ◌∷◌, ◌++◌, take, drop, length, refl, sym, ◌∙◌, ap, arith, length-append, length-take-le, Some, None, Option}
use Rattle.std.proofs.lemmas.List.{take-take}
use Rattle.std.proofs.lemmas.Slice.{take-put_mid}
use Rattle.std.proofs.Math.Seq.{take-append-add}
use borrow.Rule.Slice.PartMut.{put_mid}
use Rattle.tf_disk.specs.Disk.{Reads}
use Rattle.tf_journal.specs.Answers.{ReadsOn}

take_two : (m n k : ℕ) (xs : List ℕ) → k ≡ m + n → take m xs ++ take n (drop m xs) ≡ take k xs
take_two zero n k xs is = let same : n ≡ k = omega arith in ap (λ (i : ℕ). take i xs) same
take_two (suc m) zero zero [] is = refl
take_two (suc m) (suc n) zero [] is = refl
take_two (suc m) zero (suc k) [] is = refl
take_two (suc m) (suc n) (suc k) [] is = refl
take_two (suc m) n zero (x ∷ xs) is = absurd (omega arith)
take_two (suc m) n (suc k) (x ∷ xs) is = ap (λ (l : List ℕ). x ∷ l) (take_two m n k xs (omega arith))

-- the front of a buffer that was filled from a place on
pub front_put : (at k count : ℕ) (old buf : List ℕ) → at ≤ length old → count ≤ length buf → take (at + count) (put_mid at k old buf) ≡ take at old ++ take count buf
front_put at k count old buf within fits =
    let front : length (take at old) ≡ at = length-take-le at old within in
    sym (take-take (at + count) (at + length buf) (put_mid at k old buf) (omega arith)) ∙ ap (λ (l : List ℕ). take (at + count) l) (take-put_mid at k old buf (at + length buf) refl within)
    ∙ ap (λ (n : ℕ). take (n + count) (take at old ++ buf)) (sym front) ∙ take-append-add (take at old) buf count

pub reads_on : (told : Option (List ℕ)) (before now buf : List ℕ) (place count : ℕ) → Reads told place buf count → place ≡ length before → 0 < length buf → count ≤ length buf → now ≡ before ++ take count buf → ReadsOn told before now count
reads_on None before now buf place count reads at room within is = tt
reads_on (Some seen) before now buf place count reads at room within is = λ front.
    let longer : length now ≡ length before + count = ap length is ∙ length-append before (take count buf) ∙ ap (λ (n : ℕ). length before + n) (length-take-le count buf within) in (
      is ∙ (λ i. front i ++ reads.0 i) ∙ ap (λ (n : ℕ). take (length before) seen ++ take count (drop n seen)) at ∙ take_two (length before) count (length now) seen longer,
      λ none. let end = reads.2 none room in omega arith,
    )
