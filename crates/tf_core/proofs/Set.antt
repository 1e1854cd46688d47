-- One transform changed in its place.
use Rattle.std.proofs.Common.{◌≡◌, ℕ, ◌+◌, ◌<◌, List, length, get_or, Some, refl, ap, ◌∙◌, subst}
use Rattle.std.specs.Prelude.{slice_set}
use Rattle.std.specs.Global.{Vec}
use Rattle.tf_dest.specs.declared.held.Held.{Held}
use Rattle.tf_dest.specs.Tables.{Table}
use Rattle.tf_model.specs.declared.value.Key.{Key}
use Rattle.tf_core.specs.declared.ready.Change.{Change}
use Rattle.tf_core.specs.declared.ready.Change.TheVariants as change
use Rattle.tf_core.specs.declared.transform.Transform.{Transform}
use Rattle.tf_core.specs.Steps.{Changed, ChangedAt, changed}
use Rattle.tf_core.specs.Table.{place_in}
use Rattle.tf_core.proofs.Mapped.{get_or_any}

pub changed_at : (n m : ℕ) (id : List ℕ) (by : Change) (ts : List Transform) (at : ℕ) (old new : Transform) → at ≡ place_in id ts → at < length ts → old ≡ get_or ts at old → m ≡ n → Changed m by old new
    → ChangedAt n (place_in id ts) by ts (slice_set ts at new)
changed_at n m id by ts at old new place low is written c =
    subst (λ i. ChangedAt n i by ts (slice_set ts at new)) place (record {
      now = new;
      set = refl;
      changed = subst (λ w. Changed w by (get_or ts at new) new) written (subst (λ t. Changed m by t new) (is ∙ get_or_any ts at old new low) c);
    })

pub paged_same : (t : Transform) (n : ℕ) (page : Vec Held) (rows : Table) (position : Key) (len : ℕ) → len ≡ length page.items
    → record t { position = Some position; pages = t.pages + 1; processed = t.processed + 1; indexed = t.indexed + len; rows = rows } ≡ record (changed 0 (change.Page n page position) t) { rows = rows }
paged_same t n page rows position len e = ap (λ m. record t { position = Some position; pages = t.pages + 1; processed = t.processed + 1; indexed = t.indexed + m; rows = rows }) e
