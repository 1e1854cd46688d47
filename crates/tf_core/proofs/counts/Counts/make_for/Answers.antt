use Rattle.std.proofs.Common.{refl, sym, ap, ◌+◌, ◌∙◌}
use Rattle.std.specs.BTreeMap.{get}
use Rattle.std.specs.Cmp.Lexicographic.{slice_cmp}
use Rattle.std.specs.Option.{option_copied, unwrap_or}
use Rattle.std.specs.Ordering.{nat_cmp}
use Rattle.tf_core.proofs.CountsLaws.{same_for, some_for}
use Rattle.tf_core.proofs.counts.Counts.make_for.Goals as goal

pub returns-in_ok-insert-in-None-clause-same : goal.returns-in_ok-insert-in-None-clause-same
returns-in_ok-insert-in-None-clause-same c =
    let old = c.args.self.now.by_transform in
    let none = sym (ap option_copied c.in-None.is) ∙ (c.get.ensures.value ∙ ap (get (slice_cmp nat_cmp) old) (sym c.in_ok-name-in-None.ensures)) in
    record {
      shards = λ i s. refl;
      transforms = same_for old c.insert.new.self c.in_ok-name-in-None.name 0 c.in_ok-insert-in-None.ensures.updates.0 (ap (λ o. unwrap_or o 0 + 0) none);
    }

pub returns-in_ok-insert-in-None-clause-kept : goal.returns-in_ok-insert-in-None-clause-kept
returns-in_ok-insert-in-None-clause-kept c = record {
  shards = λ i s there. there;
  transforms = some_for c.args.self.now.by_transform c.insert.new.self c.in_ok-name-in-None.name 0 c.in_ok-insert-in-None.ensures.updates.0;
}
