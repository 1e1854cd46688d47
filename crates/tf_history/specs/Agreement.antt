-- The words of a meaning that is made from a configuration are those of the configuration itself.
use Rattle.std.specs.Prelude.{◌≡◌, ℕ, ℤ, List, [], ◌∷◌, Option, Some, None}
use Rattle.tf_model.specs.declared.doc.Doc.{Doc}
use Rattle.tf_model.specs.declared.value.Key.{Key}
use Rattle.tf_model.specs.declared.config.Config.{Config}
use Rattle.tf_model.specs.declared.entry.Row.{Row}
use Rattle.tf_model.specs.Counted as model
use Rattle.tf_model.specs.Keys as model_keys
use Rattle.tf_model.specs.Rows as model_rows
use Rattle.tf_model.specs.Retention as model_retention
use Rattle.tf_model.specs.Scratch as model_scratch
use Rattle.tf_model.specs.Changed as model_changed
use Rattle.tf_model.specs.Bounds as model_bounds
use Rattle.tf_history.specs.Configured.{meaning}
use Rattle.tf_history.specs.Grouping.{counted, has_key, all_keys, row_of, sum_range, stays, grouping, scratch}
use Rattle.tf_history.specs.Lives.{Checkpoint, Life, last_bound, window, changed, cutoff, next_bound}
use Rattle.tf_history.specs.Legality.{to_do, is_due, has_window}

-- the moment of the newest checkpoint, none where there is none
abbrev pub last_begin : List Checkpoint → Option ℤ
last_begin [] = None
last_begin (b ∷ before) = Some b.moment

-- each word of the meaning beside that of the configuration; b is the newest checkpoint and before are those before it
pub record Agrees (sources : List ℕ) (c : Config) : Type 0 where
  pub counted_is : (bound : Option ℤ) (docs : List Doc) → counted (meaning sources c) bound docs ≡ model.counted c bound docs
  pub has_key_is : (k : Key) (d : Doc) → has_key (meaning sources c) k d ≡ model_keys.has_key c k d
  pub all_keys_is : (docs : List Doc) → all_keys (meaning sources c) docs ≡ model_keys.all_keys c docs
  pub row_is : (docs : List Doc) (k : Key) → row_of (meaning sources c) docs k ≡ model_scratch.row_of sources c docs k
  pub sum_range_is : (docs : List Doc) (k : Key) → sum_range (meaning sources c) docs k ≡ model_rows.sum_range c k docs
  pub grouping_is : (docs : List Doc) → grouping (meaning sources c) docs ≡ model_scratch.grouping sources c docs
  pub retained_is : (docs : List Doc) (r : Row) → (meaning sources c).retained docs r ≡ model_retention.retained c docs r
  pub stays_is : (docs : List Doc) (cut : Option ℤ) (r : Row) → stays (meaning sources c) docs cut r ≡ model_retention.stays c docs cut r
  pub scratch_is : (bound cut : Option ℤ) (docs : List Doc) → scratch (meaning sources c) bound cut docs ≡ model_scratch.scratch sources c bound cut docs
  pub next_bound_is : (last : Option ℤ) (now : ℤ) → next_bound (meaning sources c) last now ≡ model_bounds.next_bound c last now
  pub cutoff_is : (b : Checkpoint) (before : List Checkpoint)
      → cutoff (meaning sources c) (b ∷ before) ≡ model_bounds.cutoff c (cutoff (meaning sources c) before) b.moment
  pub window_is : (b : Checkpoint) (before : List Checkpoint) → window (meaning sources c) (b ∷ before) ≡ model.window c (last_bound before) b.bound b.read
  pub changed_is : (b : Checkpoint) (before : List Checkpoint)
      → changed (meaning sources c) (b ∷ before) ≡ model_changed.changed c (last_bound before) b.bound b.read
  pub to_do_is : (l : Life) (b : Checkpoint) (before : List Checkpoint) → l.meaning ≡ meaning sources c → l.checkpoints ≡ b ∷ before
      → to_do l ≡ model_changed.changed_above c (last_bound before) b.bound l.position b.read
  pub due_is : (l : Life) (docs : List Doc) (moment : ℤ) → l.meaning ≡ meaning sources c
      → is_due l docs moment ≡ model_bounds.due c (last_begin l.checkpoints) l.prompted (has_window l docs moment) moment

-- every meaning made from a configuration agrees with it
abbrev pub MeaningsAgree : Type 0
MeaningsAgree = (sources : List ℕ) (c : Config) → Agrees sources c
