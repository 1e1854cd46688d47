use Rattle.std.proofs.Common.{◌≡◌, ap, subst, ◌∙◌}
use Rattle.std.specs.Prelude.{reverse, option_map}
use Rattle.std.specs.Option.{option_copied}
use Rattle.tf_history.specs.Transforms.{transform_of}
use Rattle.tf_core.specs.Held.{Held}
use Rattle.tf_core.specs.Kept.{past_in}
use Rattle.tf_core.specs.Standing.{shared}
use Rattle.tf_core.specs.Summary.{put_of}
use Rattle.tf_core.specs.Table.{transform_at}
use Rattle.tf_core.proofs.Found.{put_in}
use Rattle.tf_core.proofs.state.Core.transform.Goals as goal

pub returns-clause-put : goal.returns-clause-put
returns-clause-put c =
    let inside = c.self.inside in
    subst (λ history. option_map put_of (option_copied c.find.result) ≡ transform_of c.args.id.now (reverse history)) (ap (λ (h : Held). h.history) c.self.view_is)
    (put_in (past_in inside.entries.items) inside.indices.items (shared inside.docs.items) inside.transforms.items c.self.invariant.stands c.args.id.now (option_copied c.find.result) (c.find.ensures ∙ ap (transform_at c.args.id.now) c.as_slice.ensures.value))
