-- A key against one that goes on.
use Rattle.std.proofs.Common.{◌≡◌, ℕ, zero, suc, ◌<◌, List, [], ◌∷◌, length, drop, refl, arith}
use Rattle.std.specs.declared.cmp.Ordering.TheVariants.{Less}
use Rattle.std.specs.Cmp.Lexicographic.{slice_cmp}
use Rattle.tf_model.specs.declared.value.Value.{Value}
use Rattle.tf_model.specs.Order.{value_cmp}

-- a key stands before what extends it
pub more_left : (count : ℕ) (others : List Value) → count < length others → Less ≡ slice_cmp value_cmp [] (drop count others)
more_left count [] lt = absurd (omega (arith, lt))
more_left zero (y ∷ ys) lt = refl
more_left (suc count) (y ∷ ys) lt = more_left count ys (omega (arith, lt))
