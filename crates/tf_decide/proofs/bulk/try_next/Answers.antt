use Rattle.std.proofs.Common.{subst, sym, ◌∙◌}
use Rattle.std.specs.Prelude.{reverse}
use Rattle.std.specs.List.{AllByRecursion}
use Rattle.tf_event.specs.Entries.{FitsEntry}
use Rattle.tf_event.specs.declared.grammar.Grammar.TheVariants.{First}
use Rattle.tf_decide.specs.Bulk.{IsAdded, IsTried}
use Rattle.tf_decide.proofs.BulkLaws.{added_batch, next_is, next_placed, spelled_more}
use Rattle.tf_decide.proofs.Parts.{if_both, if_ok}
use Rattle.tf_decide.proofs.bulk.try_next.Goals as goal

pub add-requires : goal.add-requires
add-requires c =
    let past = reverse c.args.core.now.history in
    let is = c.in_ok-tried.ensures.asked
    ∙ next_is past c.args.given.now.actor c.args.given.now.at_ms c.args.index c.args.source.now c.args.batch c.args.id c.args.doc c.shard_of-shard.result c.count_at-seq.result c.place_with-place.result c.requires.batch
    c.shard_of-shard.ensures.shard c.shard_of-shard.ensures.within c.count_at-seq.ensures c.place_with-place.ensures in
    next_placed past c.args.given.now.actor c.args.given.now.at_ms c.args.index c.args.source.now c.args.batch c.args.id c.args.doc c.in_ok-tried.tried c.shard_of-shard.result c.count_at-seq.result c.requires.batch is
    c.shard_of-shard.ensures.shard c.shard_of-shard.ensures.within c.count_at-seq.ensures

pub returns-clause-batch : goal.returns-clause-batch
returns-clause-batch c =
    let past = reverse c.args.core.now.history in
    let is = c.in_ok-tried.ensures.asked
    ∙ next_is past c.args.given.now.actor c.args.given.now.at_ms c.args.index c.args.source.now c.args.batch c.args.id c.args.doc c.shard_of-shard.result c.count_at-seq.result c.place_with-place.result c.requires.batch
    c.shard_of-shard.ensures.shard c.shard_of-shard.ensures.within c.count_at-seq.ensures c.place_with-place.ensures in
    if_both _ _ _ c.add.result c.add.ensures.tried c.add.ensures.kept (λ new t k.
    added_batch past c.args.given.now.actor c.args.given.now.at_ms c.args.index c.args.source.now c.args.batch new c.args.id c.args.doc c.in_ok-tried.tried c.shard_of-shard.result c.count_at-seq.result c.requires.batch is
    c.shard_of-shard.ensures.shard c.shard_of-shard.ensures.within c.count_at-seq.ensures t (subst (λ name. IsAdded c.in_ok-tried.tried name c.shard_of-shard.result c.count_at-seq.result c.args.batch new) c.in_ok-name.ensures k))

pub returns-clause-tried : goal.returns-clause-tried
returns-clause-tried c =
    let past = reverse c.args.core.now.history in
    let is = c.in_ok-tried.ensures.asked
    ∙ next_is past c.args.given.now.actor c.args.given.now.at_ms c.args.index c.args.source.now c.args.batch c.args.id c.args.doc c.shard_of-shard.result c.count_at-seq.result c.place_with-place.result c.requires.batch
    c.shard_of-shard.ensures.shard c.shard_of-shard.ensures.within c.count_at-seq.ensures c.place_with-place.ensures in
    if_ok _ _ c.add.result c.add.ensures.tried (λ new t. subst (λ r. IsTried r c.args.batch new) is t)

pub returns-clause-spelled : goal.returns-clause-spelled
returns-clause-spelled c =
    if_ok _ _ c.add.result c.add.ensures.tried (λ new t.
    subst (AllByRecursion (FitsEntry First)) (sym t.entries) (spelled_more (reverse c.args.core.now.history) c.args.batch.entries c.in_ok-tried.tried c.requires.spelled c.in_ok-tried.ensures.ready))
