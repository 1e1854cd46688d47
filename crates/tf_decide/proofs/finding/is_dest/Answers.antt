use Rattle.std.proofs.Common.{ap, sym, ◌∙◌}
use Rattle.std.specs.Prelude.{is_some, reverse}
use Rattle.std.specs.Borrow.{Bor}
use Rattle.std.specs.Option.{option_copied}
use Rattle.tf_history.specs.Transforms.{transforms}
use Rattle.tf_core.specs.declared.transform.Transform.{Transform}
use Rattle.tf_core.specs.Lookups.{is_into}
use Rattle.tf_core.specs.Summary.{put_of}
use Rattle.tf_decide.proofs.Lookups.{some_found, some_mapped}
use Rattle.tf_decide.proofs.finding.is_dest.Goals as goal

pub returns : goal.returns
returns c =
    let found = c.transform_into.result in
    c.is_some.ensures
    ∙ (sym (some_mapped (λ (t : Bor Transform). t.now) found)
    ∙ (sym (some_mapped put_of (option_copied found))
    ∙ (ap is_some c.transform_into.ensures.put ∙ some_found (is_into c.args.name.now) (transforms (reverse c.args.core.now.history)))))
