use Rattle.std.proofs.Common.{◌≡◌, Some, ap, subst, ◌∙◌}
use Rattle.std.specs.Prelude.{IfSome, option_map}
use Rattle.std.specs.Option.{option_copied}
use Rattle.tf_core.specs.declared.transform.Transform.{Transform}
use Rattle.tf_core.specs.Held.{Held, life_in}
use Rattle.tf_core.specs.Kept.{history_in, past_in}
use Rattle.tf_core.specs.Lookups.{docs_in, into_at, transform_into}
use Rattle.tf_core.specs.Standing.{shared}
use Rattle.tf_core.specs.Summary.{put_of}
use Rattle.tf_core.specs.Table.{Tells}
use Rattle.tf_core.proofs.Found.{if_told, into_in, into_tells}
use Rattle.tf_core.proofs.state.Core.transform_into.Goals as goal

pub returns-clause-put : goal.returns-clause-put
returns-clause-put c =
    let inside = c.self.inside in
    subst (λ history. option_map put_of (option_copied c.find_into.result) ≡ transform_into c.args.name.now history) (ap (λ (h : Held). h.history) c.self.view_is)
    (into_in (past_in inside.entries.items) inside.indices.items (shared inside.docs.items) inside.transforms.items c.self.invariant.stands c.args.name.now (option_copied c.find_into.result) (c.find_into.ensures ∙ ap (into_at c.args.name.now) c.as_slice.ensures.value))

pub returns-clause-life : goal.returns-clause-life
returns-clause-life c =
    let inside = c.self.inside in
    subst (λ history. IfSome c.find_into.result (λ t. Tells (docs_in history) (Some t.now) (life_in t.now.id history))) (ap (λ (h : Held). h.history) c.self.view_is)
    (if_told (λ t. t.now) (λ (t : Transform). Tells (docs_in (history_in inside.entries.items)) (Some t) (life_in t.id (history_in inside.entries.items))) (into_at c.args.name.now inside.transforms.items) c.find_into.result (c.find_into.ensures ∙ ap (into_at c.args.name.now) c.as_slice.ensures.value)
    (into_tells (past_in inside.entries.items) inside.indices.items (shared inside.docs.items) inside.transforms.items c.self.invariant.stands c.args.name.now))
