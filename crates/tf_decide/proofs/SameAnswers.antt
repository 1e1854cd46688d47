-- What is told of a command is the same at any two moments and by any two actors.
use Rattle.std.proofs.Common.{◌≡◌, ℕ, ℤ, ◌+◌, ◌^◌, Bool, true, false, cond, not, List, [], ◌∷◌, ◌++◌, length, map, Option, Some, None, refl, sym, ap, ◌∙◌, subst}
use Rattle.std.specs.Prelude.{Result, Ok, Err, count_by, is_some, nat_le, nat_lt, nat_eq, ◌&&◌, slice_get}
use Rattle.std.specs.List.{find}
use Rattle.std.specs.Option.{option_map}
use Rattle.std.specs.Str.{bytes_eq}
use Rattle.std.proofs.lemmas.List.{map-append}
use Rattle.std.proofs.lemmas.List.Sums.{sum_by-cons}
use Rattle.tf_model.specs.declared.config.Config.{Config}
use Rattle.tf_model.specs.declared.doc.Doc.{Doc}
use Rattle.tf_model.specs.declared.entry.Entry.{Entry}
use Rattle.tf_model.specs.declared.entry.Kind.{Kind}
use Rattle.tf_model.specs.declared.entry.Kind.TheVariants as kind
use Rattle.tf_model.specs.declared.query.Mapping.{Mapping}
use Rattle.tf_model.specs.declared.task.State.{State}
use Rattle.tf_model.specs.declared.task.State.TheVariants as state
use Rattle.tf_model.specs.declared.tree.Tree.{Tree}
use Rattle.tf_model.specs.declared.value.Value.{Value}
use Rattle.tf_model.specs.Names.{is_index_name, is_transform_id}
use Rattle.tf_command.specs.declared.command.Op.{Op}
use Rattle.tf_command.specs.declared.command.Op.TheVariants as op
use Rattle.tf_config.specs.declared.error.ConfigError.{ConfigError}
use Rattle.tf_config.specs.Reading as configs
use Rattle.tf_mapping.specs.declared.error.DocError.{DocError}
use Rattle.tf_mapping.specs.declared.error.MappingError.{MappingError}
use Rattle.tf_mapping.specs.Documents.{reading, values_of}
use Rattle.tf_mapping.specs.Mappings as mappings
use Rattle.tf_mapping.specs.Routes.{shard_of}
use Rattle.tf_reply.specs.declared.faults.Refusal.{Refusal}
use Rattle.tf_reply.specs.declared.faults.Refusal.TheVariants as refusal
use Rattle.tf_reply.specs.declared.faults.Limit.TheVariants as limit
use Rattle.tf_reply.specs.declared.replies.Item.TheVariants as item
use Rattle.tf_history.specs.Catalogue.{SourceIndex, catalogue, number_of, written_doc}
use Rattle.tf_history.specs.LegalEntries.{has_id, is_free, is_in_shard}
use Rattle.tf_history.specs.Lives.{documents as written, life, writes}
use Rattle.tf_history.specs.Reading.{deed_of}
use Rattle.tf_history.specs.Transforms.{transform_of, transforms}
use Rattle.tf_core.specs.Built.{is_built_config}
use Rattle.tf_core.specs.Legal.{read}
use Rattle.tf_core.specs.Moves.{moment_after}
use Rattle.tf_core.specs.Sources.{catalogued}
use Rattle.tf_decide.specs.declared.asked.Answer.TheVariants as answer
use Rattle.tf_decide.specs.declared.asked.Asked.{Asked}
use Rattle.tf_decide.specs.declared.standing.Standing.{Standing}
use Rattle.tf_decide.specs.Asking as spec
use Rattle.tf_decide.specs.Asking.{kept_tree, next_seq, place_of, placed_by, write_after}
use Rattle.tf_decide.specs.Moments.{NoRefusalDependsOnTheMoment}

-- the same is told of two
abbrev TellSame : Asked → Asked → Type 0
TellSame a b = a.answer ≡ b.answer

by_test : (b : Bool) (x y u v : Asked) → TellSame x u → TellSame y v → TellSame (cond b x y) (cond b u v)
by_test true x y u v h g = h
by_test false x y u v h g = g

-- ---- where documents stand
-- what is asked of a document's place: its index, its shard and number, and its id
record Place : Type 0 where
  index : ℕ
  shard : ℕ
  seq : ℕ
  id : List ℕ

abbrev place : Doc → Place
place d = record { index = d.index; shard = d.shard; seq = d.seq; id = d.id }

abbrev places : List Entry → List Place
places past = map place (written (read past))

abbrev stands : Place → ℕ × ℕ
stands p = (p.seq, p.shard)

abbrev has : ℕ → List ℕ → Place → Bool
has index id p = nat_eq index p.index && bytes_eq id p.id

abbrev is_in : ℕ → ℕ → Place → Bool
is_in index shard p = nat_eq index p.index && nat_eq shard p.shard

abbrev found : List Entry → ℕ → List ℕ → Option (ℕ × ℕ)
found past index id = option_map place_of (find (has_id index id) (written (read past)))

found_in : (index : ℕ) (id : List ℕ) (docs : List Doc) → option_map place_of (find (has_id index id) docs) ≡ option_map stands (find (has index id) (map place docs))
found_in index id [] = refl
found_in index id (d ∷ docs) =
    elim (has_id index id d) as (λ b. option_map place_of (cond b (Some d) (find (has_id index id) docs)) ≡ option_map stands (cond b (Some (place d)) (find (has index id) (map place docs))))
    [ true ↦ refl | false ↦ found_in index id docs ]

counted_in : (index shard : ℕ) (docs : List Doc) → count_by (is_in_shard index shard) docs ≡ count_by (is_in index shard) (map place docs)
counted_in index shard [] = refl
counted_in index shard (d ∷ docs) =
    sum_by-cons (λ (e : Doc). cond (is_in_shard index shard e) 1 0) d docs
    ∙ (ap (λ n. cond (is_in_shard index shard d) 1 0 + n) (counted_in index shard docs)
    ∙ sym (sum_by-cons (λ (p : Place). cond (is_in index shard p) 1 0) (place d) (map place docs)))

-- ---- documents
-- two entries write a document with one id at one place
record WriteOne (e f : Entry) : Type 0 where
  index : ℕ
  shard : ℕ
  seq : ℕ
  id : List ℕ
  tree : Tree
  other : Tree
  first : e.kind ≡ kind.Write index shard seq id tree
  second : f.kind ≡ kind.Write index shard seq id other

-- two documents are accepted at one place, or refused for one thing
abbrev EndSame : Result Entry Refusal → Result Entry Refusal → Type 0
EndSame (Ok e) (Ok f) = WriteOne e f
EndSame (Ok e) (Err r) = ⊥
EndSame (Err r) (Ok f) = ⊥
EndSame (Err r) (Err s) = r ≡ s

told_same : (r s : Result Entry Refusal) → EndSame r s → spec.told_of r ≡ spec.told_of s
told_same (Ok e) (Ok f) w =
    ap (λ (k : Kind). answer.Written (placed_by k).0 (placed_by k).1) w.first ∙ sym (ap (λ (k : Kind). answer.Written (placed_by k).0 (placed_by k).1) w.second)
told_same (Ok e) (Err r) w = absurd w
told_same (Err r) (Ok f) w = absurd w
told_same (Err r) (Err s) w = ap answer.Refused w

item_same : (r s : Result Entry Refusal) → EndSame r s → spec.item_of r ≡ spec.item_of s
item_same (Ok e) (Ok f) w =
    ap (λ (k : Kind). item.Written (placed_by k).0 (placed_by k).1) w.first ∙ sym (ap (λ (k : Kind). item.Written (placed_by k).0 (placed_by k).1) w.second)
item_same (Ok e) (Err r) w = absurd w
item_same (Err r) (Ok f) w = absurd w
item_same (Err r) (Err s) w = ap item.Refused w

ends_same : (id : List ℕ) (r : Result (List (List ℕ × Value)) DocError) (stood : Option (ℕ × ℕ)) (seq : ℕ) (e f : Entry) → WriteOne e f → EndSame (spec.document_by id r stood seq e) (spec.document_by id r stood seq f)
ends_same id (Ok values) (Some stood) seq e f w = refl
ends_same id (Ok values) None seq e f w =
    elim (nat_lt seq (2 ^ 31)) as (λ b. EndSame (cond b (Ok e) (Err (refusal.Limit limit.Documents))) (cond b (Ok f) (Err (refusal.Limit limit.Documents)))) [ true ↦ w | false ↦ refl ]
ends_same id (Err error) stood seq e f w = refl

written_place : (past : List Entry) (e : Entry) (index shard seq : ℕ) (id : List ℕ) (tree : Tree) → e.kind ≡ kind.Write index shard seq id tree
    → places (e ∷ past) ≡ places past ++ (let p : Place = record { index = index; shard = shard; seq = seq; id = id } in p ∷ [])
written_place past e index shard seq id tree is =
    (λ i. map place (written (read past) ++ writes (deed_of values_of (catalogue past) (is i))))
    ∙ map-append place (written (read past)) (written_doc values_of (catalogue past) index shard seq id tree ∷ [])

module _ (actor other : ℕ) (given later : ℤ) (index : ℕ) (s : SourceIndex) where
  -- after two pasts whose documents stand at the same places
  document_same : (past now : List Entry) → places past ≡ places now → (id : List ℕ) (tree : Tree)
      → EndSame (spec.asked_document past actor given index s id tree) (spec.asked_document now other later index s id tree)
  document_same past now same id tree =
      let shard = shard_of id s.shards in
      let values = reading s.mapping s.stamp tree in
      let seq : next_seq past index shard ≡ next_seq now index shard =
      counted_in index shard (written (read past)) ∙ (ap (count_by (is_in index shard)) same ∙ sym (counted_in index shard (written (read now)))) in
      let stood : found past index id ≡ found now index id =
      found_in index id (written (read past)) ∙ (ap (λ ps. option_map stands (find (has index id) ps)) same ∙ sym (found_in index id (written (read now)))) in
      let e = write_after past actor given index s shard (next_seq past index shard) id tree in
      let f = write_after now other later index s shard (next_seq now index shard) id tree in
      let one : WriteOne e f = record {
        index = index;
        shard = shard;
        seq = next_seq past index shard;
        id = id;
        tree = kept_tree s.stamp (moment_after past given) tree;
        other = kept_tree s.stamp (moment_after now later) tree;
        first = refl;
        second = λ i. kind.Write index shard (sym seq i) id (kept_tree s.stamp (moment_after now later) tree);
      } in
      let first = spec.document_by id values (found past index id) (next_seq past index shard) e in
      subst (λ n. EndSame first (spec.document_by id values (found now index id) n f)) seq
      (subst (λ o. EndSame first (spec.document_by id values o (next_seq past index shard) f)) stood (ends_same id values (found past index id) (next_seq past index shard) e f one))

  next_same : (past now : List Entry) → places past ≡ places now → (r t : Result Entry Refusal) → EndSame r t → places (spec.past_with past r) ≡ places (spec.past_with now t)
  next_same past now same (Ok e) (Ok f) w =
      written_place past e w.index w.shard w.seq w.id w.tree w.first
      ∙ (ap (λ ps. ps ++ (let p : Place = record { index = w.index; shard = w.shard; seq = w.seq; id = w.id } in p ∷ [])) same ∙ sym (written_place now f w.index w.shard w.seq w.id w.other w.second))
  next_same past now same (Ok e) (Err r) w = absurd w
  next_same past now same (Err r) (Ok f) w = absurd w
  next_same past now same (Err r) (Err t) w = same

  items_same : (docs : List (List ℕ × Tree)) (past now : List Entry) → places past ≡ places now
      → map spec.item_of (spec.asked_documents past actor given index s docs) ≡ map spec.item_of (spec.asked_documents now other later index s docs)
  items_same [] past now same = refl
  items_same (doc ∷ docs) past now same =
      let r = spec.asked_document past actor given index s doc.0 doc.1 in
      let t = spec.asked_document now other later index s doc.0 doc.1 in
      let ends = document_same past now same doc.0 doc.1 in
      let rest = items_same docs (spec.past_with past r) (spec.past_with now t) (next_same past now same r t ends) in
      λ i. item_same r t ends i ∷ rest i

-- ---- commands
module _ (past : List Entry) (actor other : ℕ) (given later : ℤ) where
  into_same : (name : List ℕ) (f g : ℕ → SourceIndex → Asked) → ((index : ℕ) (s : SourceIndex) → TellSame (f index s) (g index s)) → TellSame (spec.into past name f) (spec.into past name g)
  into_same name f g each = by_test (not (spec.may_be_written past name)) _ _ _ _ refl (by_number (number_of name (catalogue past)))
    where
      by_index : (index : ℕ) (o : Option SourceIndex) → TellSame (spec.into_index name (f index) o) (spec.into_index name (g index) o)
      by_index index None = refl
      by_index index (Some s) = each index s

      by_number : (o : Option ℕ) → TellSame (spec.into_number past name f o) (spec.into_number past name g o)
      by_number None = refl
      by_number (Some index) = by_index index (slice_get (catalogue past) index)

  index_same : (name : List ℕ) (tree : Tree) (shards : ℤ) (stamp : Option (List ℕ)) → TellSame (spec.asked_index past actor given name tree shards stamp) (spec.asked_index past other later name tree shards stamp)
  index_same name tree shards stamp = by_test (is_index_name name) _ _ _ _ (by_reading (mappings.reading stamp tree)) refl
    where
      by_count : (mapping : Mapping) (o : Option ℕ) → TellSame (spec.index_sharded past actor given name o stamp mapping) (spec.index_sharded past other later name o stamp mapping)
      by_count mapping None = refl
      by_count mapping (Some count) = refl

      by_reading : (r : Result Mapping MappingError) → TellSame (spec.index_by past actor given name shards stamp r) (spec.index_by past other later name shards stamp r)
      by_reading (Ok mapping) = by_test (not (is_free name past)) _ _ _ _ refl (by_test (nat_le 64 (length (catalogue past))) _ _ _ _ refl (by_count mapping (spec.some_count shards)))
      by_reading (Err error) = refl

  put_same : (id : List ℕ) (tree : Tree) → TellSame (spec.asked_put past actor given id tree) (spec.asked_put past other later id tree)
  put_same id tree =
      by_test (is_transform_id id) _ _ _ _ (by_test (is_some (transform_of id past)) _ _ _ _ refl (by_reading (configs.reading (catalogued (catalogue past)) true tree))) refl
    where
      by_reading : (r : Result Config ConfigError) → TellSame (spec.put_by past actor given id r) (spec.put_by past other later id r)
      by_reading (Ok c) =
          by_test (not (is_free c.dest past)) _ _ _ _ refl (by_test (nat_le 64 (length (transforms past))) _ _ _ _ refl (by_test (is_built_config c) _ _ _ _ refl refl))
      by_reading (Err error) = refl

  start_same : (id : List ℕ) → TellSame (spec.asked_start past actor given id) (spec.asked_start past other later id)
  start_same id = by_test (is_transform_id id) _ _ _ _ (by_standing (option_map spec.standing_of (life id (read past)))) refl
    where
      by_state : (s : State) (over : Bool) → TellSame (spec.start_by past actor given id s over) (spec.start_by past other later id s over)
      by_state state.Stopped over = by_test over _ _ _ _ refl refl
      by_state state.Started over = refl
      by_state state.Indexing over = refl
      by_state state.Stopping over = refl
      by_state state.Failed over = refl

      by_standing : (o : Option Standing) → TellSame (spec.start_of past actor given id o) (spec.start_of past other later id o)
      by_standing None = refl
      by_standing (Some s) = by_state s.state s.is_over

  command_same : (o : Op) → TellSame (spec.asked past actor given o) (spec.asked past other later o)
  command_same (op.CreateIndex name tree shards stamp quick) = index_same name tree shards stamp
  command_same (op.Index name id tree) =
      into_same name
      (λ index s. spec.document_alone (spec.asked_document past actor given index s id tree))
      (λ index s. spec.document_alone (spec.asked_document past other later index s id tree))
      (λ index s. told_same (spec.asked_document past actor given index s id tree) (spec.asked_document past other later index s id tree) (document_same actor other given later index s past past refl id tree))
  command_same (op.Bulk name docs) =
      into_same name
      (λ index s. spec.documents_tried (spec.asked_documents past actor given index s docs))
      (λ index s. spec.documents_tried (spec.asked_documents past other later index s docs))
      (λ index s. ap answer.Tried (items_same actor other given later index s docs past past refl))
  command_same (op.PutTransform id tree) = put_same id tree
  command_same (op.Delete id) = refl
  command_same (op.Start id) = start_same id
  command_same (op.Stop id wait force) = refl
  command_same (op.Reset id) = refl
  command_same (op.ScheduleNow id) = refl
  command_same (op.Step id) = refl
  command_same (op.Await id checkpoint) = refl
  command_same op.Settle = refl
  command_same (op.Search name size after) = refl
  command_same (op.Stats id) = refl
  command_same (op.Preview config) = refl

pub told_the_same : NoRefusalDependsOnTheMoment
told_the_same past actor other given later o = command_same past actor other given later o
