-- The bounds within which a fold's numbers stay.
use Rattle.std.specs.Prelude.{ℕ, ℤ, pos, ◌*◌, ◌^◌, ◌-ℤ◌, ◌≤ℤ◌, ◌≤◌}
use Rattle.tf_model.specs.Conditions.{IsNoText}
use Rattle.tf_fold.specs.declared.part.Part.{Part}
use Rattle.tf_fold.specs.declared.part.Part.TheVariants as part

-- the number may be a sum of at most so many numbers of 64 bits and a sign
abbrev pub IsWithin : ℕ → ℤ → Type 0
IsWithin weight n = ((pos 0 -ℤ pos (weight * 2 ^ 64)) ≤ℤ n) × (n ≤ℤ pos (weight * 2 ^ 64))

-- the part may be kept of at most so many documents
abbrev pub IsPartWithin : ℕ → Part → Type 0
IsPartWithin weight (part.Sum n) = IsWithin weight n
IsPartWithin weight (part.Least v) = IsNoText v
IsPartWithin weight (part.Greatest v) = IsNoText v
IsPartWithin weight (part.Count n) = n ≤ weight
