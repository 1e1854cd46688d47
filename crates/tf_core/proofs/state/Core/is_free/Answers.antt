use Rattle.std.proofs.Common.{◌≡◌, ◌||◌, not, ap, subst, ◌∙◌}
use Rattle.std.specs.Prelude.{reverse}
use Rattle.std.specs.List.{list_any}
use Rattle.std.specs.Str.{bytes_eq}
use Rattle.tf_history.specs.Catalogue.{SourceIndex}
use Rattle.tf_history.specs.LegalEntries.{is_free}
use Rattle.tf_core.specs.declared.transform.Transform.{Transform}
use Rattle.tf_core.specs.Held.{Held}
use Rattle.tf_core.specs.Kept.{past_in}
use Rattle.tf_core.specs.Standing.{shared}
use Rattle.tf_core.proofs.Found.{free_in}
use Rattle.tf_core.proofs.state.Core.is_free.Goals as goal

pub returns : goal.returns
returns c =
    let inside = c.self.inside in
    let name = c.args.name.now in
    c.neither.ensures
    ∙ subst (λ history. not (c.names_index-is_index.result || c.names_dest-is_dest.result) ≡ is_free name (reverse history)) (ap (λ (h : Held). h.history) c.self.view_is)
    (free_in (past_in inside.entries.items) inside.indices.items (shared inside.docs.items) inside.transforms.items c.self.invariant.stands name c.names_index-is_index.result c.names_dest-is_dest.result
    (c.names_index-is_index.ensures ∙ ap (list_any (λ (s : SourceIndex). bytes_eq name s.name)) c.as_slice.ensures.value)
    (c.names_dest-is_dest.ensures ∙ ap (list_any (λ (t : Transform). bytes_eq name t.config.dest)) c.as_slice-2.ensures.value))
