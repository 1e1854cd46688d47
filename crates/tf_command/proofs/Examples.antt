-- Worked cases, by computation.
use Rattle.std.proofs.Common.{◌≡◌, [], ◌∷◌, Some, None, Err, true, refl}
use Rattle.std.specs.Prelude.{codes}
use Rattle.tf_model.specs.declared.tree.Tree.{Tree}
use Rattle.tf_command.specs.declared.command.LineError.TheVariants as error
use Rattle.tf_command.specs.declared.table.Form.TheVariants as form
use Rattle.tf_command.specs.declared.table.Name.TheVariants as name
use Rattle.tf_command.specs.Commands.{first_absent, first_bad, if_known, if_object}
use Rattle.tf_command.specs.Lines.{is_blank}
use Rattle.tf_command.specs.Table.{form_of, name_of, required}

name_stats : name_of (codes "stats") ≡ Some name.Stats
name_stats = refl

name_later : name_of (codes "index_stats") ≡ None
name_later = refl

form_document_id : form_of name.Index (codes "id") ≡ Some form.DocumentId
form_document_id = refl

form_transform_id : form_of name.Start (codes "id") ≡ Some form.Text
form_transform_id = refl

form_common : form_of name.Settle (codes "lane") ≡ Some form.Lane
form_common = refl

form_not_here : form_of name.Start (codes "force") ≡ None
form_not_here = refl

nothing : if_object 7 (Some []) ≡ Err error.UnknownOp
nothing = refl

first_of_three : first_absent [] (required name.Index) ≡ Some (codes "doc")
first_of_three = refl

-- what is absent is told before what is unknown
absent_first : (t : Tree) → if_known 7 ((codes "a", t) ∷ []) (Some name.Await) ≡ Err (error.MissingField (codes "checkpoint"))
absent_first t = refl

unknown_member : (t u : Tree) → first_bad name.Settle ((codes "a", t) ∷ (codes "b", u) ∷ []) ≡ Some (codes "a")
unknown_member t u = refl

blank : is_blank (32 ∷ 9 ∷ 13 ∷ []) ≡ true
blank = refl
