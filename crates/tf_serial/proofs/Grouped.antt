-- The rows of a finished transform are the grouping from scratch, where the Pages of an earlier history are right and those
-- behind it too.
use Rattle.std.proofs.Common.{◌≡◌, List, ◌++◌, length, sym, subst, arith}
use Rattle.std.specs.Prelude.{reverse}
use Rattle.std.proofs.lemmas.List.{length-reverse}
use mathlib.Core.List.{IsPrefix}
use Rattle.tf_model.specs.declared.entry.Entry.{Entry}
use Rattle.tf_history.specs.Histories.{AllRight}
use Rattle.tf_history.proofs.EntriesLaw.{entries_are_grouped}
use Rattle.tf_core.specs.Legal.{IsTakenHistory, read}
use Rattle.tf_mapping.specs.Documents.{values_of}
use Rattle.tf_core.proofs.Taken.{read_is_legal}
use Rattle.tf_serial.specs.Script.{IsGrouped}
use Rattle.tf_serial.proofs.GoingOn.{behind, right_read}

-- a history whose older part has right Pages, and whose newer part too
pub right_whole : (first last : List Entry) → IsPrefix first last → AllRight 0 (read (reverse first)) → AllRight (length first) (read (reverse last)) → AllRight 0 (read (reverse last))
right_whole first last p right h =
    let parts : reverse last ≡ reverse p.0 ++ reverse first = behind first last p in
    subst (λ past. AllRight 0 (read past)) (sym parts)
    (right_read 0 (reverse first) (reverse p.0) (omega arith) right
    (subst (λ n. AllRight n (read (reverse p.0 ++ reverse first))) (sym (length-reverse first)) (subst (λ past. AllRight (length first) (read past)) parts h)))

pub is_grouped : (last : List Entry) → IsTakenHistory last → AllRight 0 (read (reverse last)) → IsGrouped last
is_grouped last taken right = entries_are_grouped values_of last (read_is_legal (reverse last) taken) right
