use Rattle.std.proofs.Common.{◌≡◌, ℕ, ◌-◌, ◌<◌, ◌≤◌, false, get_or, length}
use Rattle.tf_model.specs.declared.value.Key.{Key}
use Rattle.tf_model.specs.Keys.{has_key}
use Rattle.tf_latest.proofs.finding.place_among.Given as goal

abbrev pub invariant-loop-low : goal.invariant-loop-low
invariant-loop-low l = record {
  order : l.low ≤ l.high;
  within : l.high ≤ length l.keys;
  below : (x : Key) (i : ℕ) → i < l.low → has_key l.config (get_or l.keys i x) l.doc ≡ false;
  above : (x : Key) (i : ℕ) → l.high ≤ i → i < length l.keys → has_key l.config (get_or l.keys i x) l.doc ≡ false;
}

abbrev pub decreases-loop-low : goal.decreases-loop-low
decreases-loop-low l = l.high - l.low
