-- What a test that holds says.
use Rattle.std.proofs.Common.{◌≡◌, ℕ, ◌≤◌, Bool, true, false, ◌&&◌, not, List, [], ◌∷◌, Option, Some, None, refl, ap, arith}
use Rattle.std.specs.Prelude.{ℤ, ◌||◌, ◌≤ℤ◌, int_le, nat_le, nat_eq, is_none}
use Rattle.std.specs.Ordering.{int_eq}
use Rattle.std.proofs.lemmas.Int.{ints}
use Rattle.tf_core.specs.Allowing.{is_empty}

pub both : (a b : Bool) → (a && b) ≡ true → (a ≡ true) × (b ≡ true)
both true b e = (refl, e)
both false b e = absurd (let z : false ≡ true = e in cc)

pub not_true : (b : Bool) → not b ≡ true → b ≡ false
not_true true e = absurd (let z : false ≡ true = e in cc)
not_true false e = refl

pub int_at_most : (a b : ℤ) → int_le a b ≡ true → a ≤ℤ b
int_at_most a b e = grind (arith, ints)

pub at_most_int : (a b : ℤ) → a ≤ℤ b → int_le a b ≡ true
at_most_int a b e = grind (arith, ints)

pub same_int : (a b : ℤ) → int_eq a b ≡ true → a ≡ b
same_int a b e = grind (arith, ints)

pub int_same : (a b : ℤ) → a ≡ b → int_eq a b ≡ true
int_same a b e = grind (arith, ints)

pub nat_at_most : (a b : ℕ) → nat_le a b ≡ true → a ≤ b
nat_at_most a b e = grind arith

pub at_most_nat : (a b : ℕ) → a ≤ b → nat_le a b ≡ true
at_most_nat a b e = grind arith

pub same_nat : (a b : ℕ) → nat_eq a b ≡ true → a ≡ b
same_nat a b e = grind arith

pub nat_same : (a b : ℕ) → a ≡ b → nat_eq a b ≡ true
nat_same a b e = grind arith

pub false_not : (b : Bool) → b ≡ false → not b ≡ true
false_not b e = ap not e

pub not_or : (a b : Bool) → not (a || b) ≡ (not a && not b)
not_or true b = refl
not_or false b = refl

pub none_of : {X : Type 0} (o : Option X) → is_none o ≡ true → o ≡ None
none_of None e = refl
none_of (Some x) e = absurd (let z : false ≡ true = e in cc)

pub no_items : {X : Type 0} (xs : List X) → is_empty xs ≡ true → xs ≡ []
no_items [] e = refl
no_items (x ∷ xs) e = absurd (let z : false ≡ true = e in cc)
