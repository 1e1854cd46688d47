use Rattle.std.proofs.Common.{◌≡◌, ◌++◌, map}
use Rattle.std.specs.Prelude.{reverse}
use Rattle.std.specs.List.{AllByRecursion}
use Rattle.std.specs.Vec.Iter.{into_iter_items}
use Rattle.tf_command.specs.Formed.{IsDocument}
use Rattle.tf_event.specs.Entries.{FitsEntry}
use Rattle.tf_event.specs.declared.grammar.Grammar.TheVariants.{First}
use Rattle.tf_decide.specs.Asking.{accepted, asked_documents, item_of}
use Rattle.tf_decide.specs.Bulk.{IsBatch, past_with}
use Rattle.tf_decide.proofs.bulk.try_all.Given as goal

abbrev pub invariant-loop-document : goal.invariant-loop-document
invariant-loop-document l = record {
  batch : IsBatch (reverse l.core.history) l.given.at_ms l.index l.source l.batch;
  entries : l.batch.entries ++ accepted (asked_documents (past_with (reverse l.core.history) l.batch.entries) l.given.actor l.given.at_ms l.index l.source (into_iter_items l.document-iterator)) ≡ accepted (asked_documents (reverse l.core.history) l.given.actor l.given.at_ms l.index l.source l.fn.docs);
  items : l.batch.items ++ map item_of (asked_documents (past_with (reverse l.core.history) l.batch.entries) l.given.actor l.given.at_ms l.index l.source (into_iter_items l.document-iterator)) ≡ map item_of (asked_documents (reverse l.core.history) l.given.actor l.given.at_ms l.index l.source l.fn.docs);
  docs : AllByRecursion IsDocument (into_iter_items l.document-iterator);
  spelled : AllByRecursion (FitsEntry First) l.batch.entries;
}
