use Rattle.std.proofs.Common.{◌+◌, rules, sym, ap, ◌∙◌}
use Rattle.std.specs.Option.{option_copied_mut, unwrap_or}
use Rattle.tf_core.proofs.CountsLaws.{more_in, some_in}
use Rattle.tf_core.proofs.counts.Counts.add.Goals as goal

pub returns-in-Some-clause-adds : goal.returns-in-Some-clause-adds
returns-in-Some-clause-adds c =
    let n = c.in-Some.count.now in
    let there = ap (λ o. unwrap_or o 0 + 1) (sym (ap option_copied_mut c.in-Some.is) ∙ c.get_mut.ensures.value) in
    more_in c.args.self.now.by_shard (c.get_mut.follows.lender (n + 1)) c.args.index c.args.shard (n + 1) ((c.get_mut.follows.holds (n + 1)).3 (search rules)).0 1 there

pub returns-in-Some-clause-kept : goal.returns-in-Some-clause-kept
returns-in-Some-clause-kept c =
    let n = c.in-Some.count.now in
    record {
      shards = some_in c.args.self.now.by_shard (c.get_mut.follows.lender (n + 1)) c.args.index c.args.shard (n + 1) ((c.get_mut.follows.holds (n + 1)).3 (search rules)).0;
      transforms = λ id there. there;
    }
