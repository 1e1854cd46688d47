use Rattle.std.proofs.Common.{◌≡◌, drop}
use Rattle.std.specs.Prelude.{find}
use Rattle.std.specs.Str.{bytes_eq}
use Rattle.tf_config.proofs.columns.agg_named.Given as goal

abbrev pub invariant-loop-agg : goal.invariant-loop-agg
invariant-loop-agg l = find (λ agg. bytes_eq agg.name l.name) (drop l.agg-index l.aggs) ≡ find (λ agg. bytes_eq agg.name l.name) l.aggs
