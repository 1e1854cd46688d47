use Rattle.std.proofs.Common.{◌≡◌, arith}
use Rattle.serde_json.specs.Data.{depth}
use Rattle.serde_json.specs.View.{view}
use Rattle.tf_json.specs.Stored.{data_of}
use Rattle.tf_json.proofs.Made.{same_nesting}
use Rattle.tf_json.proofs.ModelLines.{line_comes}
use Rattle.tf_json.proofs.Objects.{object_is_kept}
use Rattle.tf_json.proofs.read.tree_of_value.Goals as goal

pub returns-in-Ok-clause-object : goal.returns-in-Ok-clause-object
returns-in-Ok-clause-object c = object_is_kept (view c.args.value) c.in-Ok.tree c.in-Ok.ensures.value

pub returns-in-Ok-clause-line : goal.returns-in-Ok-clause-line
returns-in-Ok-clause-line c =
    let same : depth (data_of c.in-Ok.tree) ≡ depth (view c.args.value) = same_nesting (view c.args.value) c.in-Ok.tree c.in-Ok.ensures.value in
    line_comes c.in-Ok.tree c.in-Ok.ensures.stored (omega (arith, c.requires))
