use Rattle.std.proofs.Common.{◌≡◌, ◌<◌, ◌++◌, ◌∷◌, [], List, ℕ, length, get_or, eqb, true, false, sym, subst, ap, ◌∙◌, arith, eq-eqb, rules}
use Rattle.std.proofs.lemmas.Bool.{ne_eqb}
use Rattle.tf_io.proofs.Cut.{IsCut, cut_at_newline, cut_past_byte, cut_last, cut_none}
use Rattle.tf_io.proofs.lines.cut.Goals.{then-byte-eq10+in_ok-push, else-byte-eq10, then-start-size+in_ok-push-2, else-start-size}
use Rattle.tf_io.proofs.lines.cut.Goals as goal

pub loop-place-preserved : goal.loop-place-preserved
loop-place-preserved c =
    let text = c.args.text.items in
    let place = c.loop-place.place in
    let ends = c.loop-place.ends.items in
    let bytes : c.deref-byte-items.result.now ≡ text = c.deref-byte-items.ensures.value in
    let within : place < length text = subst (λ (bytes : List ℕ). place < length bytes) bytes c.loop-place-test.true in
    elim c.if-byte-eq10.branch [
      | then-byte-eq10+in_ok-push w ↦
          let here : eqb (get_or text place 0) 10 ≡ true = eq-eqb _ _ (ap (λ (bytes : List ℕ). get_or bytes place 0) (sym bytes) ∙ w.if-byte-eq10.true) in
          let pushed : c.if-byte-eq10.ends.items ≡ ends ++ place ∷ [] = ap (λ ends. ends.items) w.ends-is ∙ w.in_ok-push.ensures.items in
          rw (pushed, w.start-is) (cut_at_newline text ends c.loop-place.start place c.loop-place.invariant within here)
      | else-byte-eq10 w ↦
          let here : eqb (get_or text place 0) 10 ≡ false = ne_eqb _ _ (λ is. w.if-byte-eq10.false (ap (λ (bytes : List ℕ). get_or bytes place 0) bytes ∙ is)) in
          rw (w.ends-is, w.start-is) (cut_past_byte text ends c.loop-place.start place c.loop-place.invariant here)
    ]

lines_end : (c : goal.Joined-start-size) → IsCut c.args.text.items c.if-start-size.ends.items
lines_end c =
    let text = c.args.text.items in
    let place = c.loop-place.place in
    let ends = c.loop-place.ends.items in
    let size : length c.deref-byte-items.result.now ≡ length text = ap length c.deref-byte-items.ensures.value in
    let all : place ≡ length text = omega (arith, size, c.loop-place-test.false, c.loop-place.auto.place-end) in
    elim c.if-start-size.branch [
      | then-start-size+in_ok-push-2 w ↦
          let same : c.in-Ok.size ≡ length text = search rules in
          let is : c.in-Ok.size ≡ place = same ∙ sym all in
          let pushed : c.if-start-size.ends.items ≡ ends ++ place ∷ [] = ap (λ ends. ends.items) w.ends-is ∙ w.in_ok-push-2.ensures.items ∙ ap (λ size. ends ++ size ∷ []) is in
          rw pushed (cut_last text ends c.loop-place.start place c.loop-place.invariant all (omega (arith, is, all, w.if-start-size.true)))
      | else-start-size w ↦ rw w.ends-is (cut_none text ends c.loop-place.start place c.loop-place.invariant (omega arith))
    ]

pub invariant_of-result : goal.invariant_of-result
invariant_of-result c = (lines_end c).0

pub returns : goal.returns
returns c = (lines_end c).1
