-- What a result says of a reading.
use Rattle.std.specs.Prelude.{◌≡◌, Option, None, Result, Ok, Err}
use Rattle.serde_json.specs.Data.{Data}
use Rattle.tf_json.specs.Reading.{Reads, Reading, not_json, fraction, tree}
use Rattle.tf_json.specs.declared.read.JsonError.{JsonError}
use Rattle.tf_json.specs.declared.read.JsonError.TheVariants as e
use Rattle.tf_json.specs.declared.read.Fault.{Fault}
use Rattle.tf_json.specs.declared.read.Fault.TheVariants as f
use Rattle.tf_model.specs.declared.tree.Tree.{Tree}

-- `Memory` may come at any place, and every other result is the reading
abbrev pub Answers : Reading → Result Tree JsonError → Type 0
Answers r (Ok x) = r ≡ tree x
Answers r (Err e.NotJson) = r ≡ not_json
Answers r (Err (e.Fraction path)) = r ≡ fraction path
Answers r (Err e.Memory) = Unit {0}

-- a refused parse: `serde_json` gives no value, or memory ran out
abbrev pub IsNoValue : Option Data → JsonError → Type 0
IsNoValue value e.NotJson = value ≡ None
IsNoValue value (e.Fraction path) = ⊥
IsNoValue value e.Memory = Unit {0}

-- the fault is the fraction that was read of a part, or memory ran out
abbrev pub Blames : {A : Type 0} → Reads A → Fault → Type 0
Blames r f.Memory = Unit {0}
Blames r (f.Fraction place) = r ≡ Err place

-- the result is what was read of a part, or memory ran out
abbrev pub Gives : {A : Type 0} → Reads A → Result A Fault → Type 0
Gives r (Ok x) = r ≡ Ok x
Gives r (Err fault) = Blames r fault
