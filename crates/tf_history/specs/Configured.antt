-- The meaning of a configuration, its sources given by their numbers.
use Rattle.std.specs.Prelude.{ℕ, ℤ, ◌-ℤ◌, false, List, Option, Some, None, is_none, option_map, option_and_then, nat_eq}
use Rattle.std.specs.List.{list_any}
use Rattle.tf_model.specs.declared.doc.Doc.{Doc}
use Rattle.tf_model.specs.declared.config.Config.{Config}
use Rattle.tf_model.specs.declared.config.Shape.{Shape}
use Rattle.tf_model.specs.declared.config.Shape.TheVariants.{Pivot, Latest}
use Rattle.tf_model.specs.declared.config.SyncTime.{SyncTime}
use Rattle.tf_model.specs.declared.config.Retention.{Retention}
use Rattle.tf_model.specs.Query.{meets}
use Rattle.tf_model.specs.Counted.{sync_value}
use Rattle.tf_model.specs.Keys.{keys_of}
use Rattle.tf_model.specs.Rows.{all_aggregated, aggs_of, first_wide}
use Rattle.tf_model.specs.Latest.{newest, age_cmp}
use Rattle.tf_model.specs.Retention.{date_of, retained}
use Rattle.tf_model.specs.Bounds.{aligned}
use Rattle.tf_history.specs.Meaning.{Meaning, Content}
use Rattle.tf_history.specs.Meaning.Content.{Values, Named}

-- what names a document
abbrev pub name_of : Doc → Content
name_of d = Named d.index d.shard d.seq

-- the values of the aggregations, or the name of the newest document
abbrev pub content_by : List ℕ → Shape → List Doc → Option Content
content_by sources (Pivot groups aggs) docs = option_map Values (all_aggregated aggs docs)
content_by sources (Latest unique_key sort) docs = option_map name_of (newest (age_cmp sources sort) docs)

-- the moment less the delay, aligned, where there is a sync field
abbrev pub aligned_by : Config → Option SyncTime → ℤ → ℤ
aligned_by c None moment = moment
aligned_by c (Some sync) moment = aligned c (moment -ℤ sync.delay_ms)

-- the meaning of a configuration
abbrev pub meaning : List ℕ → Config → Meaning
meaning sources c = record {
  is_source = λ index. list_any (nat_eq index) sources;
  matches = λ d. meets d c.query;
  sync = λ d. option_and_then date_of (sync_value c d);
  keys = keys_of c;
  content = content_by sources c.shape;
  wide_sum = λ k docs. first_wide k (aggs_of c.shape) docs;
  retained = retained c;
  max_age = option_map (λ (r : Retention). r.max_age_ms) c.retention;
  is_batch = is_none c.sync;
  frequency = c.frequency_ms;
  includes_late = false;
  aligned = aligned_by c c.sync;
  page_size = c.page_size;
}
