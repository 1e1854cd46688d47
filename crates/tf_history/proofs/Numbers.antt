-- Facts on whole numbers, and on the greatest multiple of a step that is at most a number.
use Rattle.std.proofs.Common.{◌≡◌, ℕ, ℤ, pos, negsuc, ◌-ℤ◌, ◌+◌, ◌-◌, ◌*◌, ◌/◌, ◌%◌, ◌<◌, ◌≤◌, ◌<ℤ◌, ◌≤ℤ◌, arith}
use Rattle.std.specs.Prelude.{true, int_le}
use Rattle.std.specs.Int.{int_max}
use Rattle.std.proofs.lemmas.Int.{ints}
use Rattle.std.proofs.lemmas.Nat.{div_below, le-div}
use Rattle.std.proofs.Math.Nat.{div-add-mod, mul-le-mul_left, mul_comm, mod-le, mod-lt}
use Rattle.tf_model.specs.Keys.{floor_to}

pub int_trans : (x y z : ℤ) → x ≤ℤ y → y ≤ℤ z → x ≤ℤ z
int_trans x y z e f = grind (arith, ints)

pub max_at_most : (x y z : ℤ) → x ≤ℤ z → y ≤ℤ z → int_max x y ≤ℤ z
max_at_most x y z e f = grind (arith, ints)

pub at_most_from : (x y : ℤ) → int_le y x ≡ true → y ≤ℤ x
at_most_from x y e = grind (arith, ints)

less_by : (n : ℤ) (r : ℕ) → (n -ℤ pos r) ≤ℤ n
less_by n r = grind (arith, ints)

pub floor_below : (n step : ℤ) → floor_to n step ≤ℤ n
unfolding floor_to
floor_below (pos a) step = less_by (pos a) _
floor_below (negsuc a) step = less_by (negsuc a) _

both_up : (a b k : ℕ) → 0 < k → a - a % k ≤ b → a - a % k ≤ b - b % k
both_up a b k some e =
    let p : k * (a / k) + a % k ≡ a = div-add-mod a k in
    let q : k * (b / k) + b % k ≡ b = div-add-mod b k in
    let low : a / k * k ≤ b = omega (arith, p, e, mul_comm k (a / k)) in
    let up : k * (a / k) ≤ k * (b / k) = mul-le-mul_left k (le-div (a / k) b k some low) in
    omega (arith, p, q, up)

both_down : (a b k : ℕ) → 0 < k → b < (a - a % k) + k → b - b % k ≤ a - a % k
both_down a b k some e =
    let p : k * (a / k) + a % k ≡ a = div-add-mod a k in
    let q : k * (b / k) + b % k ≡ b = div-add-mod b k in
    let high : b < (a / k + 1) * k = omega (arith, p, e, mul_comm k (a / k), mul_comm k (a / k + 1)) in
    let less : b / k < a / k + 1 = div_below b k (a / k + 1) some high in
    let up : k * (b / k) ≤ k * (a / k) = mul-le-mul_left k (omega (arith, less)) in
    omega (arith, p, q, up)

below_up : (a b k : ℕ) → 0 < k → (pos a -ℤ pos (a % k)) ≤ℤ pos b → (pos a -ℤ pos (a % k)) ≤ℤ (pos b -ℤ pos (b % k))
below_up a b k some e = let f = both_up a b k some (omega (arith, ints, e, mod-le a k)) in omega (arith, ints, f, mod-le a k, mod-le b k)

below_down : (a b k : ℕ) → 0 < k → (negsuc a -ℤ pos (k - 1 - a % k)) ≤ℤ negsuc b → (negsuc a -ℤ pos (k - 1 - a % k)) ≤ℤ (negsuc b -ℤ pos (k - 1 - b % k))
below_down a b k some e =
    let m = mod-lt a some in
    let n = mod-lt b some in
    let f = both_down a b k some (omega (arith, ints, e, m, mod-le a k)) in
    omega (arith, ints, f, m, n, mod-le a k, mod-le b k)

-- a multiple that is at most a number is at most the greatest such multiple
pub floor_least : (m v step : ℤ) → pos 0 <ℤ step → floor_to m step ≤ℤ v → floor_to m step ≤ℤ floor_to v step
unfolding floor_to
floor_least (pos a) (pos b) (pos k) some e = below_up a b k (omega (arith, ints, some)) e
floor_least (pos a) (negsuc b) (pos k) some e = absurd (omega (arith, ints, e, mod-le a k))
floor_least (negsuc a) (pos b) (pos k) some e = omega (arith, ints, mod-le b k)
floor_least (negsuc a) (negsuc b) (pos k) some e = below_down a b k (omega (arith, ints, some)) e
floor_least m v (negsuc k) some e = absurd (omega (arith, ints, some))
