-- The forms of members, each as what it reads of a tree: none where the tree has not the form.
use Rattle.std.specs.Prelude.{ℕ, ℤ, pos, negsuc, ◌&&◌, int_le, Bool, List, [], ◌∷◌, length, codes, Option, Some, None, is_some, if◌then◌else◌}
use Rattle.std.specs.Option.{option_map, option_and_then}
use Rattle.std.specs.Str.{bytes_eq}
use Rattle.tf_model.specs.declared.tree.Tree.{Tree}
use Rattle.tf_model.specs.Names.{is_between}
use Rattle.tf_model.specs.Trees.{text_in, number_in, truth_in, items_in, members_in}
use Rattle.tf_command.specs.declared.table.Form.{Form}
use Rattle.tf_command.specs.declared.table.Form.TheVariants as form

-- what is there, where it passes a test
abbrev pub kept_if : {A : Type 0} → (A → Bool) → Option A → Option A
kept_if test None = None
kept_if test (Some x) = if test x then Some x else None

-- a tree that is an object, and one that is an array
abbrev pub object_in : Tree → Option Tree
object_in t = option_map (λ members. t) (members_in t)

abbrev pub array_in : Tree → Option Tree
array_in t = option_map (λ items. t) (items_in t)

-- a text that is the id of a document
abbrev pub is_document_id : List ℕ → Bool
is_document_id id = is_between 1 512 (length id)

abbrev pub document_id_in : Tree → Option (List ℕ)
document_id_in t = kept_if is_document_id (text_in t)

-- the one word that the member `durability` may be
abbrev pub is_request : List ℕ → Bool
is_request text = bytes_eq text (codes "request")

-- a whole number that is at least the one and at most the other
abbrev pub number_between : ℤ → ℤ → Tree → Option ℤ
number_between low high t = kept_if (λ n. int_le low n && int_le n high) (number_in t)

-- the same as a natural number, for ends from 0 on
abbrev pub natural : ℤ → ℕ
natural (pos n) = n
natural (negsuc n) = 0

abbrev pub natural_between : ℕ → ℕ → Tree → Option ℕ
natural_between low high t = option_map natural (number_between (pos low) (pos high) t)

-- how many hits
abbrev pub size_in : Tree → Option ℕ
size_in t = natural_between 1 1000 t

abbrev pub lane_in : Tree → Option ℕ
lane_in t = natural_between 0 7 t

-- the number of a checkpoint
abbrev pub checkpoint_in : Tree → Option ℕ
checkpoint_in t = natural_between 0 9223372036854775807 t

-- a moment, which is any i64
abbrev pub moment_in : Tree → Option ℤ
moment_in t = number_between (negsuc 9223372036854775807) (pos 9223372036854775807) t

-- an id and a document
abbrev pub Document : Type 0
Document = List ℕ × Tree

abbrev pub identified : Tree → List ℕ → Document
identified doc id = (id, doc)

abbrev pub doc_and_id : List ℕ × Tree → List ℕ × Tree → Option Document
doc_and_id first second =
    if bytes_eq first.0 (codes "doc") && bytes_eq second.0 (codes "id")
    then option_and_then (λ doc. option_map (identified doc) (document_id_in second.1)) (object_in first.1)
    else None

-- the members `doc` and `id`, which stand in this order, and no other
abbrev pub document_of : List (List ℕ × Tree) → Option Document
document_of (first ∷ second ∷ []) = doc_and_id first second
document_of _ = None

abbrev pub document_in : Tree → Option Document
document_in t = option_and_then document_of (members_in t)

-- the documents of a list, where each item is one
abbrev pub all_documents : List Tree → Option (List Document)
all_documents [] = Some []
all_documents (t ∷ ts) = option_and_then (λ doc. option_map (λ docs. doc ∷ docs) (all_documents ts)) (document_in t)

-- from 1 to 10,000 documents
abbrev pub counted : List Tree → Option (List Document)
counted items = if is_between 1 10000 (length items) then all_documents items else None

abbrev pub documents_in : Tree → Option (List Document)
documents_in t = option_and_then counted (items_in t)

-- whether a tree has a form
abbrev pub has_form : Form → Tree → Bool
has_form form.Text t = is_some (text_in t)
has_form form.DocumentId t = is_some (document_id_in t)
has_form form.Object t = is_some (members_in t)
has_form form.Array t = is_some (items_in t)
has_form form.Documents t = is_some (documents_in t)
has_form form.Truth t = is_some (truth_in t)
has_form form.Request t = is_some (kept_if is_request (text_in t))
has_form form.Size t = is_some (size_in t)
has_form form.Lane t = is_some (lane_in t)
has_form form.Moment t = is_some (moment_in t)
has_form form.Checkpoint t = is_some (checkpoint_in t)
has_form form.Number t = is_some (number_in t)
