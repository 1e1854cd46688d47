-- The words of a meaning that is made from a configuration are those of the configuration itself.
use Rattle.std.proofs.Common.{◌≡◌, ℕ, ℤ, Bool, true, false, cond, not, ◌&&◌, ◌||◌, List, [], ◌∷◌, Option, Some, None, refl, sym, ap, ◌∙◌}
use Rattle.std.specs.Prelude.{option_and_then, option_map, is_none, is_some, int_le, ◌+ℤ◌, ◌-ℤ◌}
use Rattle.std.specs.List.{filter, filter_map, cons_option}
use Rattle.std.proofs.lemmas.List.Elements.{filter_agree}
use Rattle.tf_model.specs.declared.doc.Doc.{Doc}
use Rattle.tf_model.specs.declared.value.Value.{Value}
use Rattle.tf_model.specs.declared.value.Value.TheVariants as value
use Rattle.tf_model.specs.declared.value.Key.{Key}
use Rattle.tf_model.specs.declared.config.Config.{Config}
use Rattle.tf_model.specs.declared.config.SyncTime.{SyncTime}
use Rattle.tf_model.specs.declared.config.Shape.{Shape}
use Rattle.tf_model.specs.declared.config.Shape.TheVariants as shape
use Rattle.tf_model.specs.declared.entry.Row.{Row}
use Rattle.tf_model.specs.declared.entry.Row.TheVariants as row
use Rattle.tf_model.specs.Query.{meets, passes}
use Rattle.tf_model.specs.Counted.{sync_value, is_before, is_since, is_in_window}
use Rattle.tf_model.specs.Counted as model
use Rattle.tf_model.specs.Keys as model_keys
use Rattle.tf_model.specs.Rows.{all_aggregated, aggs_of, with_key, pivot_row}
use Rattle.tf_model.specs.Rows as model_rows
use Rattle.tf_model.specs.Latest.{newest, age_cmp, sort_of, row_named, latest_row}
use Rattle.tf_model.specs.Retention.{date_of, is_past, retained}
use Rattle.tf_model.specs.Retention as model_retention
use Rattle.tf_model.specs.Scratch.{is_pivot}
use Rattle.tf_model.specs.Scratch as model_scratch
use Rattle.tf_model.specs.Changed.{is_after}
use Rattle.tf_model.specs.Changed as model_changed
use Rattle.tf_model.specs.Bounds.{aligned, risen}
use Rattle.tf_model.specs.Bounds as model_bounds
use Rattle.tf_model.proofs.WindowLaws.{window_of_all}
use Rattle.tf_history.specs.Meaning.{Meaning, row_from}
use Rattle.tf_history.specs.Meaning.Content.{Values}
use Rattle.tf_history.specs.Configured.{meaning, content_by, name_of, aligned_by}
use Rattle.tf_history.specs.Grouping.{is_below, is_from, counts, counted, from_bound, has_key, all_keys, row_of, sum_range, stays, grouping, scratch}
use Rattle.tf_history.specs.Lives.{Checkpoint, Life, last_bound, window, changed, cutoff, next_bound}
use Rattle.tf_history.specs.Legality.{to_do, is_due, has_window, is_time, is_empty}
use Rattle.tf_history.specs.Agreement.{last_begin, MeaningsAgree}

-- ---- bounds on dates
below_is : (bound : ℤ) (o : Option Value) → is_below (Some bound) (option_and_then date_of o) ≡ passes (is_before bound) o
below_is bound None = refl
below_is bound (Some value.Null) = refl
below_is bound (Some (value.Bool b)) = refl
below_is bound (Some (value.Int n)) = refl
below_is bound (Some (value.Date ms)) = refl
below_is bound (Some (value.Str t)) = refl

from_is : (bound : ℤ) (o : Option Value) → is_from (Some bound) (option_and_then date_of o) ≡ passes (is_since bound) o
from_is bound None = refl
from_is bound (Some value.Null) = refl
from_is bound (Some (value.Bool b)) = refl
from_is bound (Some (value.Int n)) = refl
from_is bound (Some (value.Date ms)) = refl
from_is bound (Some (value.Str t)) = refl

past_is : (cut : ℤ) (o : Option ℤ) → is_below (Some cut) o ≡ is_past o cut
past_is cut None = refl
past_is cut (Some ms) = refl

-- ---- documents
and_true : (b : Bool) → (b && true) ≡ b
and_true true = refl
and_true false = refl

counts_is : (sources : List ℕ) (c : Config) (bound : Option ℤ) (d : Doc) → counts (meaning sources c) bound d ≡ model.counts c bound d
unfolding model.counts
counts_is sources c None d = and_true (meets d c.query)
counts_is sources c (Some bound) d = ap (λ b. meets d c.query && b) (below_is bound (sync_value c d))

counted_is : (sources : List ℕ) (c : Config) (bound : Option ℤ) (docs : List Doc) → counted (meaning sources c) bound docs ≡ model.counted c bound docs
unfolding model.counted
counted_is sources c bound docs = filter_agree (counts (meaning sources c) bound) (model.counts c bound) (counts_is sources c bound) docs

filter_both : (p q : Doc → Bool) (docs : List Doc) → filter p (filter q docs) ≡ filter (λ d. q d && p d) docs
filter_both p q [] = refl
filter_both p q (d ∷ docs) =
    elim (q d) as (λ b. filter p (cond b (d ∷ filter q docs) (filter q docs)) ≡ cond (b && p d) (d ∷ filter (λ d. q d && p d) docs) (filter (λ d. q d && p d) docs)) [
      | true ↦ ap (λ ds. cond (p d) (d ∷ ds) ds) (filter_both p q docs)
      | false ↦ filter_both p q docs
    ]

since_is : (sources : List ℕ) (c : Config) (low : Option ℤ) (d : Doc) → is_from low ((meaning sources c).sync d) ≡ model.is_from c low d
since_is sources c None d = refl
since_is sources c (Some low) d = from_is low (sync_value c d)

between_is : (sources : List ℕ) (c : Config) (low high : Option ℤ) (docs : List Doc)
    → from_bound (meaning sources c) low (counted (meaning sources c) high docs) ≡ model.window c low high docs
unfolding model.window is_in_window
between_is sources c low high docs =
    filter_both (λ d. is_from low ((meaning sources c).sync d)) (counts (meaning sources c) high) docs
    ∙ filter_agree (λ d. counts (meaning sources c) high d && is_from low ((meaning sources c).sync d)) (λ d. model.counts c high d && model.is_from c low d)
    (λ d i. counts_is sources c high d i && since_is sources c low d i) docs

window_is : (sources : List ℕ) (c : Config) (b : Checkpoint) (before : List Checkpoint)
    → window (meaning sources c) (b ∷ before) ≡ model.window c (last_bound before) b.bound b.read
window_is sources c b [] = counted_is sources c b.bound b.read ∙ sym (window_of_all c b.bound b.read)
window_is sources c b (a ∷ before) = between_is sources c a.bound b.bound b.read

-- ---- keys
all_keys_is : (sources : List ℕ) (c : Config) (docs : List Doc) → all_keys (meaning sources c) docs ≡ model_keys.all_keys c docs
unfolding model_keys.all_keys
all_keys_is sources c docs = refl

has_key_is : (sources : List ℕ) (c : Config) (k : Key) (d : Doc) → has_key (meaning sources c) k d ≡ model_keys.has_key c k d
unfolding model_keys.has_key
has_key_is sources c k d = refl

changed_is : (sources : List ℕ) (c : Config) (b : Checkpoint) (before : List Checkpoint)
    → changed (meaning sources c) (b ∷ before) ≡ model_changed.changed c (last_bound before) b.bound b.read
unfolding model_changed.changed
changed_is sources c b before = all_keys_is sources c (window (meaning sources c) (b ∷ before)) ∙ ap (model_keys.all_keys c) (window_is sources c b before)

to_do_is : (sources : List ℕ) (c : Config) (l : Life) (b : Checkpoint) (before : List Checkpoint) → l.meaning ≡ meaning sources c → l.checkpoints ≡ b ∷ before
    → to_do l ≡ model_changed.changed_above c (last_bound before) b.bound l.position b.read
unfolding model_changed.changed_above
to_do_is sources c l b before m cs = ap (filter (is_after l.position)) ((λ i. changed (m i) (cs i)) ∙ changed_is sources c b before)

-- ---- rows
values_row : (k : Key) (o : Option (List Value)) → option_map (row_from k) (option_map Values o) ≡ option_map (row.Pivot k) o
values_row k None = refl
values_row k (Some values) = refl

named_row : (k : Key) (o : Option Doc) → option_map (row_from k) (option_map name_of o) ≡ option_map (row_named k) o
named_row k None = refl
named_row k (Some d) = refl

shaped : (sources : List ℕ) (k : Key) (s : Shape) (docs : List Doc) → option_map (row_from k) (content_by sources s docs)
    ≡ cond (is_pivot s) (option_map (row.Pivot k) (all_aggregated (aggs_of s) docs)) (option_map (row_named k) (newest (age_cmp sources (sort_of s)) docs))
shaped sources k (shape.Pivot groups aggs) docs = values_row k (all_aggregated aggs docs)
shaped sources k (shape.Latest unique_key sort) docs = named_row k (newest (age_cmp sources sort) docs)

row_is : (sources : List ℕ) (c : Config) (docs : List Doc) (k : Key) → row_of (meaning sources c) docs k ≡ model_scratch.row_of sources c docs k
unfolding model_scratch.row_of pivot_row latest_row with_key model_keys.has_key
row_is sources c docs k = shaped sources k c.shape (filter (has_key (meaning sources c) k) docs)

sum_range_is : (sources : List ℕ) (c : Config) (docs : List Doc) (k : Key) → sum_range (meaning sources c) docs k ≡ model_rows.sum_range c k docs
unfolding model_rows.sum_range with_key model_keys.has_key
sum_range_is sources c docs k = refl

stays_is : (sources : List ℕ) (c : Config) (docs : List Doc) (cut : Option ℤ) (r : Row)
    → stays (meaning sources c) docs cut r ≡ model_retention.stays c docs cut r
unfolding model_retention.stays
stays_is sources c docs None r = refl
stays_is sources c docs (Some cut) r = ap not (past_is cut (retained c docs r))

made_same : (f g : Key → Option Row) → ((k : Key) → f k ≡ g k) → (ks : List Key) → filter_map f ks ≡ filter_map g ks
made_same f g h [] = refl
made_same f g h (k ∷ ks) = λ i. cons_option (h k i) (made_same f g h ks i)

grouping_is : (sources : List ℕ) (c : Config) (docs : List Doc) → grouping (meaning sources c) docs ≡ model_scratch.grouping sources c docs
unfolding model_scratch.grouping
grouping_is sources c docs =
    made_same (row_of (meaning sources c) docs) (model_scratch.row_of sources c docs) (row_is sources c docs) (all_keys (meaning sources c) docs)
    ∙ ap (filter_map (model_scratch.row_of sources c docs)) (all_keys_is sources c docs)

scratch_is : (sources : List ℕ) (c : Config) (bound cut : Option ℤ) (docs : List Doc)
    → scratch (meaning sources c) bound cut docs ≡ model_scratch.scratch sources c bound cut docs
unfolding model_scratch.scratch
scratch_is sources c bound cut docs =
    filter_agree (stays (meaning sources c) docs cut) (model_retention.stays c docs cut) (stays_is sources c docs cut) (grouping (meaning sources c) (counted (meaning sources c) bound docs))
    ∙ ap (filter (model_retention.stays c docs cut))
    (grouping_is sources c (counted (meaning sources c) bound docs) ∙ ap (model_scratch.grouping sources c) (counted_is sources c bound docs))

-- ---- bounds
bound_by : (c : Config) (o : Option SyncTime) (last : Option ℤ) (now : ℤ)
    → cond (is_none o) None (Some (risen last (aligned_by c o now))) ≡ option_map (λ (sync : SyncTime). risen last (aligned c (now -ℤ sync.delay_ms))) o
bound_by c None last now = refl
bound_by c (Some sync) last now = refl

next_bound_is : (sources : List ℕ) (c : Config) (last : Option ℤ) (now : ℤ) → next_bound (meaning sources c) last now ≡ model_bounds.next_bound c last now
unfolding model_bounds.next_bound
next_bound_is sources c last now = bound_by c c.sync last now

cutoff_is : (sources : List ℕ) (c : Config) (b : Checkpoint) (before : List Checkpoint)
    → cutoff (meaning sources c) (b ∷ before) ≡ model_bounds.cutoff c (cutoff (meaning sources c) before) b.moment
unfolding model_bounds.cutoff
cutoff_is sources c b before = refl

some_sync : (o : Option SyncTime) → not (is_none o) ≡ is_some o
some_sync None = refl
some_sync (Some sync) = refl

due_by : (sources : List ℕ) (c : Config) (checkpoints : List Checkpoint) (prompted filled : Bool) (moment : ℤ)
    → (is_empty checkpoints || (not (is_none c.sync) && (filled && is_time (meaning sources c) checkpoints prompted moment))) ≡ model_bounds.due c (last_begin checkpoints) prompted filled moment
unfolding model_bounds.due
due_by sources c [] prompted filled moment = refl
due_by sources c (b ∷ before) prompted filled moment = ap (λ t. t && (filled && (prompted || int_le (b.moment +ℤ c.frequency_ms) moment))) (some_sync c.sync)

due_is : (sources : List ℕ) (c : Config) (l : Life) (docs : List Doc) (moment : ℤ) → l.meaning ≡ meaning sources c
    → is_due l docs moment ≡ model_bounds.due c (last_begin l.checkpoints) l.prompted (has_window l docs moment) moment
due_is sources c l docs moment m =
    ap (λ (x : Meaning). is_empty l.checkpoints || (not x.is_batch && (has_window l docs moment && is_time x l.checkpoints l.prompted moment))) m
    ∙ due_by sources c l.checkpoints l.prompted (has_window l docs moment) moment

pub meanings_agree : MeaningsAgree
meanings_agree sources c = record {
  counted_is = counted_is sources c;
  has_key_is = has_key_is sources c;
  all_keys_is = all_keys_is sources c;
  row_is = row_is sources c;
  sum_range_is = sum_range_is sources c;
  grouping_is = grouping_is sources c;
  retained_is = λ docs r. refl;
  stays_is = stays_is sources c;
  scratch_is = scratch_is sources c;
  next_bound_is = next_bound_is sources c;
  cutoff_is = cutoff_is sources c;
  window_is = window_is sources c;
  changed_is = changed_is sources c;
  to_do_is = to_do_is sources c;
  due_is = due_is sources c;
}
