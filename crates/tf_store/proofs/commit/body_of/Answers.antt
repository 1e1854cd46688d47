use Rattle.std.proofs.Common.{arith}
use Rattle.tf_event.specs.Entries.{spelled_entries}
use Rattle.tf_event.specs.declared.grammar.Grammar.TheVariants.{First}
use Rattle.tf_core.specs.Kept.{entry_of}
use Rattle.tf_store.proofs.Encoding.{one_more, all_spelled, fits_at}
use Rattle.tf_store.proofs.commit.body_of.Goals as goal

pub encode_kept-requires : goal.encode_kept-requires
encode_kept-requires c = fits_at c.args.ready.now.entries c.loop-at.at (entry_of c.get.result.now) (omega (arith, c.loop-at-test.true, c.len-count.ensures)) c.get.ensures c.requires.each

pub loop-at-preserved : goal.loop-at-preserved
loop-at-preserved c =
    one_more c.args.ready.now.entries c.loop-at.at (entry_of c.get.result.now) c.loop-at.body c.encode_kept.new.out (spelled_entries First c.args.ready.now.entries) (omega (arith, c.loop-at-test.true, c.len-count.ensures)) c.get.ensures c.in_ok-encode_kept.ensures c.loop-at.invariant

pub returns : goal.returns
returns c = all_spelled c.args.ready.now.entries c.loop-at.at c.loop-at.body (spelled_entries First c.args.ready.now.entries) (omega (arith, c.loop-at-test.false, c.len-count.ensures)) c.loop-at.invariant
