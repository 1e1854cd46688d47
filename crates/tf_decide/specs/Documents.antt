-- What becomes of a document, by what is looked up for it.
use Rattle.std.specs.Prelude.{ℕ, ℤ, List, Option, Some, None, Result, Ok, Err}
use Rattle.tf_model.specs.declared.entry.Entry.{Entry}
use Rattle.tf_model.specs.declared.tree.Tree.{Tree}
use Rattle.tf_model.specs.declared.value.Value.{Value}
use Rattle.tf_mapping.specs.Documents as documents
use Rattle.tf_mapping.specs.declared.error.DocError.{DocError}
use Rattle.tf_reply.specs.declared.faults.Refusal.{Refusal}
use Rattle.tf_reply.specs.Refusals.{doc_refusal}
use Rattle.tf_history.specs.Catalogue.{SourceIndex}
use Rattle.tf_decide.specs.Asking.{document_by, document_with, refusal_or, write_after}

-- what becomes of a document at a place, by where another one with its id stands
abbrev pub document_tried : List Entry → ℕ → ℤ → ℕ → SourceIndex → ℕ → Option (ℕ × ℕ) → ℕ → List ℕ → Tree → Result Entry Refusal
document_tried past actor given index s shard place seq id tree =
    document_by id (documents.reading s.mapping s.stamp tree) place seq (write_after past actor given index s shard seq id tree)

-- a document whose id is new
abbrev pub document_new : List Entry → ℕ → ℤ → ℕ → SourceIndex → ℕ → ℕ → List ℕ → Tree → Result Entry Refusal
document_new past actor given index s shard seq id tree = document_with seq (write_after past actor given index s shard seq id tree)

-- the refusal that an error is, none where values are read
abbrev pub refused_by : Result (List (List ℕ × Value)) DocError → Option Refusal
refused_by (Ok values) = None
refused_by (Err error) = Some (refusal_or (doc_refusal error))
