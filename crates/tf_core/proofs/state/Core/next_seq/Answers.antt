use Rattle.std.proofs.Common.{◌≡◌, List, ap, subst, sym, ◌∙◌}
use Rattle.std.specs.Prelude.{count_by}
use Rattle.tf_model.specs.declared.entry.Entry.{Entry}
use Rattle.tf_history.specs.LegalEntries.{is_in_shard}
use Rattle.tf_core.specs.Held.{Held}
use Rattle.tf_core.specs.Lookups.{shard_count}
use Rattle.tf_core.proofs.state.Core.next_seq.Goals as goal

pub returns : goal.returns
returns c =
    let index = c.args.index in
    let shard = c.args.shard in
    subst (λ (history : List Entry). c.count.result ≡ shard_count index shard history) (ap (λ (h : Held). h.history) c.self.view_is)
    (c.count.ensures ∙ (c.self.invariant.counted index shard ∙ ap (count_by (is_in_shard index shard)) (sym c.self.invariant.stands.docs_are)))
