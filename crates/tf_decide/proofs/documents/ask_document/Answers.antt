use Rattle.std.proofs.Common.{◌∙◌}
use Rattle.std.specs.Prelude.{reverse}
use Rattle.tf_decide.proofs.Kept.{alone_tried}
use Rattle.tf_decide.proofs.Parts.{if_ok}
use Rattle.tf_decide.proofs.documents.ask_document.Goals as goal

pub returns-clause-asked : goal.returns-clause-asked
returns-clause-asked c =
    let past = reverse c.args.core.now.history in
    if_ok _ _ c.try_document.result c.try_document.ensures.asked (λ tried is.
    is ∙ alone_tried past c.args.given.now.actor c.args.given.now.at_ms c.args.index c.args.source.now c.args.id c.args.doc c.shard_of-shard.result c.place_in-place.result c.next_seq-seq.result c.shard_of-shard.ensures.shard c.place_in-place.ensures c.next_seq-seq.ensures)
