-- A file that is filled up with zeros, and then written over.
use Rattle.std.proofs.Common.{◌≡◌, ℕ, zero, suc, ◌+◌, ◌-◌, ◌≤◌, List, [], ◌∷◌, ◌++◌, length, take, drop, replicate, sym, ◌∙◌, ap, arith}
use Rattle.std.proofs.lemmas.List.{take-replicate, take_all, drop_all, length-replicate, append-nil}
use Rattle.tf_disk.specs.Disk.{written}

-- the bytes with zeros up to an end
abbrev pub padded : ℕ → List ℕ → List ℕ
padded n old = old ++ replicate (n - length old) 0

take_padded : (place n : ℕ) (old : List ℕ) → place ≤ n → take place (padded n old) ≡ take place old ++ replicate (place - length old) 0
take_padded zero n old le = let none : 0 - length old ≡ 0 = omega arith in ap (λ (k : ℕ). replicate k 0) (sym none)
take_padded (suc place) n [] le =
    let all : n - length {A = ℕ} [] ≡ n = omega arith in
    let front : suc place - length {A = ℕ} [] ≡ suc place = omega arith in
    ap (λ (k : ℕ). take (suc place) (replicate k 0)) all ∙ take-replicate (suc place) n 0 le ∙ sym (ap (λ (k : ℕ). replicate k 0) front)
take_padded (suc place) zero (byte ∷ old) le = absurd (omega arith)
take_padded (suc place) (suc n) (byte ∷ old) le =
    let less : suc n - suc (length old) ≡ n - length old = omega arith in
    let front : suc place - suc (length old) ≡ place - length old = omega arith in
    ap (λ (k : ℕ). byte ∷ take place (old ++ replicate k 0)) less ∙ ap (λ (l : List ℕ). byte ∷ l) (take_padded place n old (omega arith))
    ∙ sym (ap (λ (k : ℕ). byte ∷ (take place old ++ replicate k 0)) front)

drop_padded : (n : ℕ) (old : List ℕ) → drop n (padded n old) ≡ drop n old
drop_padded zero old = let none : 0 - length old ≡ 0 = omega arith in ap (λ (k : ℕ). old ++ replicate k 0) none ∙ append-nil old
drop_padded (suc n) [] = drop_all (suc n) (padded (suc n) []) (omega (arith, length-replicate {A = ℕ} (suc n - length {A = ℕ} []) 0))
drop_padded (suc n) (byte ∷ old) =
    let less : suc n - suc (length old) ≡ n - length old = omega arith in
    ap (λ (k : ℕ). drop n (old ++ replicate k 0)) less ∙ drop_padded n old

-- what is written over the zeros
pub written_padded : (place : ℕ) (bytes old longer new : List ℕ) → longer ≡ padded (place + length bytes) old → new ≡ take place longer ++ bytes ++ drop (place + length bytes) longer
    → new ≡ written old place bytes
written_padded place bytes old longer new is here =
    here ∙ ap (λ (l : List ℕ). take place l ++ bytes ++ drop (place + length bytes) l) is
    ∙ (λ i. take_padded place (place + length bytes) old (omega arith) i ++ bytes ++ drop_padded (place + length bytes) old i)

-- a whole buffer that was written
pub all_written : (n : ℕ) (old new : List ℕ) → n ≡ length old → length new ≡ length old → take n (new ++ drop (length new) old) ≡ new
all_written n old new is same =
    ap (λ (l : List ℕ). take n (new ++ l)) (drop_all (length new) old (omega arith)) ∙ ap (λ (l : List ℕ). take n l) (append-nil new) ∙ take_all n new (omega arith)
