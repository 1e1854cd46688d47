use Rattle.std.proofs.Common.{IsUtf8, arith, subst}
use Rattle.std.specs.List.{AllByRecursion}
use Rattle.tf_event.specs.Values.{Field}
use Rattle.tf_decide.proofs.SpelledEntries.{mapping_fits, none_behind}
use Rattle.tf_decide.proofs.indices.are_spelled.Goals as goal

pub returns : goal.returns
returns c =
    let l = c.loop-field in
    mapping_fits c.args.mapping.now c.requires
    (subst (AllByRecursion (λ (f : Field). IsUtf8 f.0)) c.as_slice-field-items.ensures
    (l.invariant (none_behind (λ (f : Field). IsUtf8 f.0) c.as_slice-field-items.result.now l.field-index (omega (arith, c.loop-field-test.false)))))
