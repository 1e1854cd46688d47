use Rattle.std.proofs.Common.{refl, sym, ap, ◌+◌, ◌∙◌}
use Rattle.std.specs.Option.{option_copied, unwrap_or}
use Rattle.tf_core.proofs.CountsLaws.{same_in, some_in}
use Rattle.tf_core.proofs.counts.Counts.make.Goals as goal

pub returns-in_ok-insert-in-None-clause-same : goal.returns-in_ok-insert-in-None-clause-same
returns-in_ok-insert-in-None-clause-same c =
    record {
      shards = same_in c.args.self.now.by_shard c.insert.new.self c.args.index c.args.shard 0 c.in_ok-insert-in-None.ensures.updates.0
          (ap (λ o. unwrap_or o 0 + 0) (sym (ap option_copied c.in-None.is) ∙ c.get.ensures.value));
      transforms = λ id. refl;
    }

pub returns-in_ok-insert-in-None-clause-kept : goal.returns-in_ok-insert-in-None-clause-kept
returns-in_ok-insert-in-None-clause-kept c = record {
  shards = some_in c.args.self.now.by_shard c.insert.new.self c.args.index c.args.shard 0 c.in_ok-insert-in-None.ensures.updates.0;
  transforms = λ id there. there;
}
