use Rattle.std.proofs.Common.{sym, ◌∙◌}
use Rattle.tf_history.specs.LegalEntries.{has_id}
use Rattle.tf_core.specs.Standing.{shared}
use Rattle.tf_core.proofs.Found.{found_at, not_found}
use Rattle.tf_core.proofs.lookups.found_doc.Goals as goal

pub returns-in-None : goal.returns-in-None
returns-in-None c = sym (not_found (has_id c.args.index c.args.id.now) (shared c.args.docs.now) (sym c.place_in.ensures ∙ c.in-None.is))

pub returns-in-Some : goal.returns-in-Some
returns-in-Some c = c.doc_behind.ensures ∙ sym (found_at (has_id c.args.index c.args.id.now) (shared c.args.docs.now) c.in-Some.place (sym c.place_in.ensures ∙ c.in-Some.is))
