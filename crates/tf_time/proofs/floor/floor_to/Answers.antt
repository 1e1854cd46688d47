use Rattle.std.proofs.Common.{◌≡◌, ℤ, pos, ◌-ℤ◌, ◌<ℤ◌, FitsSigned, w64, to_z, of_z, subst, sym, ap, ◌∙◌, arith}
use Rattle.std.proofs.lemmas.Int.{ints, to_z-of_z}
use Rattle.std.specs.Int.{int_rem_euclid}
use Rattle.tf_time.specs.Floors.{IsFloor}
use Rattle.tf_time.proofs.Floors.{floor_is}
use Rattle.tf_time.proofs.floor.floor_to.Goals as goal

pub returns-clause-floor : goal.returns-clause-floor
returns-clause-floor c =
    let ms = c.args.ms in
    let step = c.args.step in
    let some : pos 0 <ℤ step = omega (arith, ints) in
    let fits : FitsSigned w64 ms = c.ranges.ms in
    let step_fits : FitsSigned w64 step = c.ranges.step in
    let left : c.rem_euclid.result ≡ int_rem_euclid ms step = simp to_z-of_z at c.rem_euclid.ensures.value in
    let out : to_z w64 (of_z w64 (to_z w64 (of_z w64 ms) -ℤ to_z w64 (of_z w64 c.rem_euclid.result))) ≡ ms -ℤ c.rem_euclid.result = omega (arith, ints) in
    let P : ℤ → Type 0 = λ z. IsFloor ms step z in
    subst P (sym (out ∙ ap (λ r. ms -ℤ r) left)) (floor_is ms step some)
