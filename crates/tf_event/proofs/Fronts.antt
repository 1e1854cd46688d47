-- What stood before still stands where a write was refused.
use Rattle.std.proofs.Common.{◌≡◌, ℕ, List, [], ◌∷◌, ◌++◌, take, drop, length, refl, sym, ap, ap₂, subst, ◌∙◌}
use Rattle.std.proofs.Math.Seq.{take-length, take-append_seam}
use Rattle.std.proofs.lemmas.List.{take-append-drop}
use Rattle.tf_event.specs.Spelling.{BeginsWith}

pub begins_same : (front bytes : List ℕ) → bytes ≡ front → BeginsWith bytes front
unfolding BeginsWith
begins_same front bytes e = ap (take (length front)) e ∙ take-length front

first_is : (a b : ℕ) (xs ys : List ℕ) → a ∷ xs ≡ b ∷ ys → a ≡ b
first_is a b xs ys e = cc

others_are : (a b : ℕ) (xs ys : List ℕ) → a ∷ xs ≡ b ∷ ys → xs ≡ ys
others_are a b xs ys e = cc

shorter : (front more bytes : List ℕ) → take (length (front ++ more)) bytes ≡ front ++ more → take (length front) bytes ≡ front
shorter [] more bytes e = refl
shorter (b ∷ front) more [] e = absurd (let none : [] ≡ b ∷ (front ++ more) = e in cc)
shorter (b ∷ front) more (a ∷ bytes) e =
    ap₂ (λ (x : ℕ) (xs : List ℕ). x ∷ xs) (first_is a b _ _ e) (shorter front more bytes (others_are a b _ _ e))

pub begins_more : (front grown more bytes : List ℕ) → grown ≡ front ++ more → BeginsWith bytes grown → BeginsWith bytes front
unfolding BeginsWith
begins_more front grown more bytes e h = shorter front more bytes (subst (λ (g : List ℕ). take (length g) bytes ≡ g) e h)

-- the same over two writes, and over three
pub begins_two : (front a b more then bytes : List ℕ) → a ≡ front ++ more → b ≡ a ++ then → BeginsWith bytes b → BeginsWith bytes front
begins_two front a b more then bytes e f h = begins_more front a more bytes e (begins_more a b then bytes f h)

pub begins_three : (front a b c more then last bytes : List ℕ) → a ≡ front ++ more → b ≡ a ++ then → c ≡ b ++ last → BeginsWith bytes c → BeginsWith bytes front
begins_three front a b c more then last bytes e f g h = begins_two front a b more then bytes e f (begins_more b c last bytes g h)

-- a second write that was refused and changed nothing
pub begins_held : (front grown more bytes : List ℕ) → grown ≡ front ++ more → bytes ≡ grown → BeginsWith bytes front
begins_held front grown more bytes e same = begins_more front grown more bytes e (begins_same grown bytes same)

pub ruleset fronts = (begins_same, begins_held, begins_more, begins_two, begins_three)

-- bytes after bytes that begin with the front
pub begins_trans : (front grown bytes : List ℕ) → BeginsWith grown front → BeginsWith bytes grown → BeginsWith bytes front
unfolding BeginsWith
begins_trans front grown bytes g h =
    let rest : List ℕ = drop (length front) grown in
    let parts : grown ≡ front ++ rest = sym (take-append-drop (length front) grown) ∙ ap (λ (x : List ℕ). x ++ rest) g in
    begins_more front grown rest bytes parts h

pub begins_grown : (front bytes more grown : List ℕ) → BeginsWith bytes front → grown ≡ bytes ++ more → BeginsWith grown front
unfolding BeginsWith
begins_grown front bytes more grown h e =
    let whole : BeginsWith grown bytes = ap (take (length bytes)) e ∙ take-append_seam bytes more in
    begins_trans front bytes grown h whole
