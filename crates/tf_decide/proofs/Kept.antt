-- Documents as an index keeps them.
use Rattle.std.proofs.Common.{◌≡◌, ℕ, ◌≤◌, ℤ, true, ◌&&◌, List, Option, Some, None, ◌+◌, length, arith, ap, ◌∙◌}
use Rattle.std.specs.Prelude.{IfSome, IsSome}
use Rattle.std.specs.List.{find}
use Rattle.std.specs.Option.{option_map}
use Rattle.tf_model.specs.declared.entry.Entry.{Entry}
use Rattle.tf_model.specs.declared.query.Mapping.{Mapping}
use Rattle.tf_model.specs.declared.tree.Tree.{Tree}
use Rattle.tf_model.specs.Conditions.{IsSpan}
use Rattle.tf_model.specs.Print.{printed}
use Rattle.tf_model.specs.Trees.{members_in}
use Rattle.tf_command.specs.Formed.{IsObject}
use Rattle.tf_event.specs.Trees.{FitsTree}
use Rattle.tf_json.specs.Reading as json
use Rattle.tf_history.specs.Catalogue.{SourceIndex}
use Rattle.tf_history.specs.Lives.{documents as written}
use Rattle.tf_mapping.specs.Documents.{reads}
use Rattle.tf_mapping.specs.Mappings.{IsMapping, IsStampOf}
use Rattle.tf_mapping.specs.Written.{is_object, is_written}
use Rattle.tf_mapping.proofs.WrittenLaws.{stamped_is_written}
use Rattle.tf_time.specs.Dates.{is_date}
use Rattle.tf_core.specs.Legal.{read}
use Rattle.tf_mapping.specs.Routes.{shard_of}
use Rattle.tf_history.specs.LegalEntries.{has_id}
use Rattle.tf_decide.specs.Asking.{asked_document, kept_tree, next_seq, place_of}
use Rattle.tf_decide.specs.Documents.{document_tried}
use Rattle.tf_decide.proofs.Sound.{IsSound}
use Rattle.tf_decide.proofs.StampedSizes.{stamped_size}

object_is : (t : Tree) → IsSome (members_in t) → is_object t ≡ true
object_is t some = some

-- ---- what is read with its stamp free is kept
kept_unstamped : (mapping : Mapping) (ms : ℤ) (t : Tree) → IsSome (members_in t) → reads mapping None t ≡ true → is_written mapping None ms t ≡ true
unfolding is_written
kept_unstamped mapping ms t object read = λ i. object_is t object i && (read i && true)

pub is_kept : (mapping : Mapping) (stamp : Option (List ℕ)) (ms : ℤ) (t : Tree) → IsMapping mapping → IsStampOf mapping stamp → is_date ms ≡ true → IsSome (members_in t) → reads mapping stamp t ≡ true
    → is_written mapping stamp ms (kept_tree stamp ms t) ≡ true
is_kept mapping None ms t is stamped date object read = kept_unstamped mapping ms t object read
is_kept mapping (Some stamp) ms t is stamped date object read = stamped_is_written mapping stamp ms t is stamped date (object_is t object) read

-- ---- the kept tree has a spelling
kept_short : (stamp : Option (List ℕ)) (ms : ℤ) (t : Tree) → IfSome stamp (λ field. length field ≤ 255) → IsSpan ms → length (printed (kept_tree stamp ms t)) ≤ length (printed t) + 2000
kept_short None ms t short span = omega arith
kept_short (Some path) ms t short span = stamped_size t path ms short span

pub kept_fits : (s : SourceIndex) (ms : ℤ) (t kept : Tree) → IsSound s → IsSpan ms → IsObject t → kept ≡ kept_tree s.stamp ms t → json.reading (printed kept) ≡ json.tree kept → FitsTree kept
kept_fits s ms t kept sound span object is again =
    let size = kept_short s.stamp ms t sound.stamp span in
    let small = object.1.1 in
    record { text = omega (arith, ap (λ u. length (printed u)) is, size, small); read = again }

-- a document alone
pub alone_tried : (past : List Entry) (actor : ℕ) (given : ℤ) (index : ℕ) (s : SourceIndex) (id : List ℕ) (doc : Tree) (shard : ℕ) (place : Option (ℕ × ℕ)) (seq : ℕ)
    → shard ≡ shard_of id s.shards → place ≡ option_map place_of (find (has_id index id) (written (read past))) → seq ≡ next_seq past index shard
    → document_tried past actor given index s shard place seq id doc ≡ asked_document past actor given index s id doc
alone_tried past actor given index s id doc shard place seq shard_is place_is seq_is =
    (λ i. document_tried past actor given index s shard (place_is i) (seq_is i) id doc)
    ∙ (λ i. document_tried past actor given index s (shard_is i) (option_map place_of (find (has_id index id) (written (read past)))) (next_seq past index (shard_is i)) id doc)
