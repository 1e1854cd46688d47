-- What the numbers of an entry are known to be.
use Rattle.std.specs.Prelude.{◌<◌, ◌^◌, ⊤, IfSome}
use Rattle.std.specs.Int.{w64}
use Rattle.std.specs.Int.RustNames.{FitsSigned}
use Rattle.tf_model.specs.declared.entry.Kind.{Kind}
use Rattle.tf_model.specs.declared.entry.Kind.TheVariants as kind

-- the number of a checkpoint is below 2^64, and its bound has 64 bits
abbrev pub HasNumbers : Kind → Type 0
HasNumbers (kind.Begin id n bound) = (n < 2 ^ 64) × IfSome bound (FitsSigned w64)
HasNumbers (kind.Page id n rows) = n < 2 ^ 64
HasNumbers (kind.Finish id n) = n < 2 ^ 64
HasNumbers (kind.Fail id n key name value) = n < 2 ^ 64
HasNumbers _ = ⊤
