use Rattle.std.proofs.Common.{◌≡◌, rules, subst, sym}
use Rattle.std.specs.Prelude.{reverse}
use Rattle.std.specs.List.{AllByRecursion}
use Rattle.std.specs.Vec.Iter.{into_iter_items}
use Rattle.std.proofs.lemmas.List.Elements.{recursion_from_All}
use Rattle.tf_command.specs.Formed.{IsDocument}
use Rattle.tf_event.specs.Entries.{FitsEntry}
use Rattle.tf_event.specs.declared.grammar.Grammar.TheVariants.{First}
use Rattle.tf_decide.proofs.BulkLaws.{start_entries, start_items}
use Rattle.tf_decide.proofs.bulk.try_all.Goals as goal

pub loop-document-init : goal.loop-document-init
loop-document-init c =
    let past = reverse c.args.core.now.history in
    let given = c.args.given.now in
    let b = c.in_ok-batch.batch in
    let rest : into_iter_items c.into_iter-document-iterator.result ≡ c.args.docs = search rules in
    record {
      batch = c.in_ok-batch.ensures.batch;
      entries = start_entries past given.actor given.at_ms c.args.index c.args.source.now b.entries (into_iter_items c.into_iter-document-iterator.result) c.args.docs c.in_ok-batch.ensures.entries rest;
      items = start_items past given.actor given.at_ms c.args.index c.args.source.now b.entries b.items (into_iter_items c.into_iter-document-iterator.result) c.args.docs c.in_ok-batch.ensures.entries c.in_ok-batch.ensures.items rest;
      docs = subst (AllByRecursion IsDocument) (sym rest) (recursion_from_All IsDocument c.args.docs c.requires.docs.2);
      spelled = subst (AllByRecursion (FitsEntry First)) (sym c.in_ok-batch.ensures.entries) tt;
    }
