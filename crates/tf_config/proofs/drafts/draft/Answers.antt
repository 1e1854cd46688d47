use Rattle.std.proofs.Common.{◌≡◌, ◌∙◌, w64, rules, to_z, of_z}
use Rattle.std.proofs.lemmas.Int.{to_z-of_z}
use Rattle.tf_config.specs.Drafts as spec
use Rattle.tf_config.specs.Drafts.{drafted}
use Rattle.tf_config.proofs.drafts.draft.Goals as goal

pub returns : goal.returns
unfolding drafted
returns c =
    let often : to_z w64 (of_z w64 c.frequency.result) ≡ spec.frequency c.args.tree.now = to_z-of_z w64 c.frequency.result (search rules) ∙ c.frequency.ensures in
    λ i. record {
      sources = c.requires i;
      query = c.args.query;
      dest = c.in_ok-dest.ensures i;
      shape = c.in_ok-shape.ensures i;
      sync = c.in_ok-sync.ensures i;
      retention = c.in_ok-retention.ensures i;
      frequency_ms = often i;
      page_size = c.page_size.ensures i;
      align = c.align.ensures i;
      epoch_millis = c.epoch_millis.ensures i;
      description = c.in_ok-description.ensures i;
    }
