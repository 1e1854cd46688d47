use Rattle.std.proofs.Common.{◌≡◌, List, ap, subst, sym, ◌∙◌}
use Rattle.std.specs.List.{find}
use Rattle.std.specs.Option.{option_copied}
use Rattle.tf_model.specs.declared.entry.Entry.{Entry}
use Rattle.tf_history.specs.LegalEntries.{has_id}
use Rattle.tf_core.specs.Held.{Held}
use Rattle.tf_core.specs.Ids.{AreIndexed}
use Rattle.tf_core.specs.Lookups.{docs_in}
use Rattle.tf_core.specs.Standing.{shared}
use Rattle.tf_core.proofs.state.Core.document.Goals as goal

pub found_doc-requires : goal.found_doc-requires
found_doc-requires c = subst (λ docs. AreIndexed c.self.inside.ids (shared docs)) (sym c.as_slice.ensures.value) c.self.invariant.indexed

pub returns : goal.returns
returns c =
    subst (λ (history : List Entry). option_copied c.found_doc.result ≡ find (has_id c.args.index c.args.id.now) (docs_in history)) (ap (λ (h : Held). h.history) c.self.view_is)
    (c.found_doc.ensures ∙ ap (find (has_id c.args.index c.args.id.now)) (ap shared c.as_slice.ensures.value ∙ sym c.self.invariant.stands.docs_are))
