use Rattle.std.proofs.Common.{arith, subst, sym}
use Rattle.std.specs.Prelude.{reverse}
use Rattle.tf_core.specs.Moves.{moment_after}
use Rattle.tf_event.specs.Entries.{FitsEntry}
use Rattle.tf_event.specs.declared.grammar.Grammar.TheVariants.{First}
use Rattle.tf_decide.proofs.Kept.{kept_fits}
use Rattle.tf_decide.proofs.Sound.{index_sound, moment_span}
use Rattle.tf_decide.proofs.SpelledEntries.{document_fits}
use Rattle.tf_decide.proofs.documents.keep_document.Goals as goal

pub returns-clause-ready : goal.returns-clause-ready
returns-clause-ready c =
    let past = reverse c.args.core.now.history in
    let moment = moment_after past c.args.given.now.at_ms in
    let sound = index_sound past c.args.index c.args.source.now c.is_taken.ensures c.requires.source in
    subst (FitsEntry First) (sym c.entry_after.ensures)
    (document_fits past c.args.given.now.actor c.args.given.now.at_ms c.args.index c.args.shard c.args.seq c.args.id c.in_ok-tree.tree c.is_taken.ensures c.requires.actor (omega (arith, c.ranges.index.fits))
    (omega (arith, c.ranges.shard.fits)) (omega (arith, c.ranges.seq.fits)) c.requires.id c.text_is_utf8.ensures
    (kept_fits c.args.source.now moment c.args.doc c.in_ok-tree.tree sound (moment_span past c.args.given.now.at_ms c.is_taken.ensures) c.requires.doc c.in_ok-tree.ensures.tree c.line_is_read.ensures))
