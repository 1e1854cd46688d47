use Rattle.std.proofs.Common.{◌≡◌, ℕ, ◌&&◌, List, drop}
use Rattle.std.specs.List.{list_any}
use Rattle.std.specs.Str.{bytes_eq}
use Rattle.tf_model.specs.declared.query.FieldType.{FieldType}
use Rattle.tf_history.specs.LegalEntries.{is_date}
use Rattle.tf_core.proofs.allowing.has_date.Given as goal

abbrev pub invariant-loop-field : goal.invariant-loop-field
invariant-loop-field l = list_any (λ (f : List ℕ × FieldType). bytes_eq l.name f.0 && is_date f.1) (drop l.field-index l.fields) ≡ list_any (λ (f : List ℕ × FieldType). bytes_eq l.name f.0 && is_date f.1) l.fields
