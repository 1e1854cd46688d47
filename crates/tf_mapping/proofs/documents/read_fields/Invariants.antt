use Rattle.std.proofs.Common.{◌≡◌, ◌++◌, drop, length}
use Rattle.std.specs.Option.{option_copied}
use Rattle.tf_model.specs.Paired.{paired}
use Rattle.tf_mapping.specs.Documents.{ok_map, fields_in}
use Rattle.tf_mapping.proofs.documents.read_fields.Given as goal

-- the values so far and those of the fields that are left
abbrev pub invariant-loop-field : goal.invariant-loop-field
invariant-loop-field l =
    (length l.values ≡ l.field-index)
    × (ok_map (λ rest. paired l.fields l.values ++ rest) (fields_in (option_copied l.stamp) l.tree (drop l.field-index l.fields)) ≡ fields_in (option_copied l.stamp) l.tree l.fields)
