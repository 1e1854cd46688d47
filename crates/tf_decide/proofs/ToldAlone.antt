-- What is told of a command that is not refused, where the command alone tells it.
use Rattle.std.proofs.Common.{◌≡◌, ℕ, ℤ, Bool, true, false, cond, not, List, length, Option, Some, None, refl, sym, ap, ◌∙◌}
use Rattle.std.specs.Prelude.{Result, Ok, Err, is_some, nat_le, option_map}
use Rattle.std.specs.List.{find}
use Rattle.tf_model.specs.declared.config.Config.{Config}
use Rattle.tf_model.specs.declared.entry.Entry.{Entry}
use Rattle.tf_model.specs.declared.query.Mapping.{Mapping}
use Rattle.tf_model.specs.declared.task.State.{State}
use Rattle.tf_model.specs.declared.task.State.TheVariants as state
use Rattle.tf_model.specs.declared.tree.Tree.{Tree}
use Rattle.tf_model.specs.Names.{is_index_name, is_transform_id}
use Rattle.tf_command.specs.declared.command.Op.{Op}
use Rattle.tf_command.specs.declared.command.Op.TheVariants as op
use Rattle.tf_config.specs.declared.error.ConfigError.{ConfigError}
use Rattle.tf_config.specs.Reading as configs
use Rattle.tf_mapping.specs.declared.error.MappingError.{MappingError}
use Rattle.tf_mapping.specs.Mappings as mappings
use Rattle.tf_reply.specs.declared.faults.Refusal.{Refusal}
use Rattle.tf_reply.specs.declared.faults.Refusal.TheVariants as refusal
use Rattle.tf_history.proofs.Lists.{and_first, and_second}
use Rattle.tf_reply.specs.declared.replies.Reply.{Reply}
use Rattle.tf_reply.specs.Refusals.{config_refusal, mapping_refusal}
use Rattle.tf_history.specs.Catalogue.{catalogue}
use Rattle.tf_history.specs.LegalEntries.{is_free}
use Rattle.tf_history.specs.Lives.{life}
use Rattle.tf_history.specs.Transforms.{PutTransform, transform_of, transforms}
use Rattle.tf_core.specs.Built.{is_built_config}
use Rattle.tf_core.specs.Legal.{read}
use Rattle.tf_core.specs.Lookups.{is_into}
use Rattle.tf_core.specs.Sources.{catalogued}
use Rattle.tf_decide.specs.declared.asked.Answer.{Answer}
use Rattle.tf_decide.specs.declared.asked.Answer.TheVariants as answer
use Rattle.tf_decide.specs.declared.asked.Asked.{Asked}
use Rattle.tf_decide.specs.declared.standing.Standing.{Standing}
use Rattle.std.specs.Option.{option_map as map_option}
use Rattle.tf_decide.specs.Asking as spec
use Rattle.tf_decide.specs.Replying.{IsAccepted, is_refused, reply_alone, reply_by, told_alone}

-- where it is not refused, this is told
abbrev TellsOnly : Answer → Asked → Type 0
TellsOnly a x = is_refused x.answer ≡ false → x.answer ≡ a

by_test : (a : Answer) (b : Bool) (x y : Asked) → TellsOnly a x → TellsOnly a y → TellsOnly a (cond b x y)
by_test a true x y h g = h
by_test a false x y h g = g

refused : (a : Answer) (r : Refusal) → TellsOnly a (spec.refuses r)
refused a r accepted = absurd (let no : true ≡ false = accepted in cc)

refused_by : (a : Answer) (o : Option Refusal) → TellsOnly a (spec.refused_by o)
refused_by a None accepted = absurd (let no : true ≡ false = accepted in cc)
refused_by a (Some r) accepted = absurd (let no : true ≡ false = accepted in cc)

module _ (past : List Entry) (actor : ℕ) (given : ℤ) where
  index_told : (name : List ℕ) (tree : Tree) (shards : ℤ) (stamp : Option (List ℕ)) → TellsOnly answer.Created (spec.asked_index past actor given name tree shards stamp)
  index_told name tree shards stamp = by_test answer.Created (is_index_name name) _ _ (by_reading (mappings.reading stamp tree)) (refused answer.Created _)
    where
      by_count : (mapping : Mapping) (o : Option ℕ) → TellsOnly answer.Created (spec.index_sharded past actor given name o stamp mapping)
      by_count mapping None = refused answer.Created _
      by_count mapping (Some count) = λ accepted. refl

      by_reading : (r : Result Mapping MappingError) → TellsOnly answer.Created (spec.index_by past actor given name shards stamp r)
      by_reading (Ok mapping) =
          by_test answer.Created (not (is_free name past)) _ _ (refused answer.Created _) (by_test answer.Created (nat_le 64 (length (catalogue past))) _ _ (refused answer.Created _) (by_count mapping (spec.some_count shards)))
      by_reading (Err error) = refused_by answer.Created (mapping_refusal error)

  put_told : (id : List ℕ) (tree : Tree) → TellsOnly answer.Created (spec.asked_put past actor given id tree)
  put_told id tree =
      by_test answer.Created (is_transform_id id) _ _
      (by_test answer.Created (is_some (transform_of id past)) _ _ (refused answer.Created _) (by_reading (configs.reading (catalogued (catalogue past)) true tree)))
      (refused answer.Created _)
    where
      by_reading : (r : Result Config ConfigError) → TellsOnly answer.Created (spec.put_by past actor given id r)
      by_reading (Ok c) =
          by_test answer.Created (not (is_free c.dest past)) _ _ (refused answer.Created _)
          (by_test answer.Created (nat_le 64 (length (transforms past))) _ _ (refused answer.Created _) (by_test answer.Created (is_built_config c) _ _ (λ accepted. refl) (refused answer.Created _)))
      by_reading (Err error) = refused_by answer.Created (config_refusal error)

  start_told : (id : List ℕ) → TellsOnly (answer.Started id) (spec.asked_start past actor given id)
  start_told id = by_test (answer.Started id) (is_transform_id id) _ _ (by_standing (map_option spec.standing_of (life id (read past)))) (refused (answer.Started id) _)
    where
      by_state : (s : State) (over : Bool) → TellsOnly (answer.Started id) (spec.start_by past actor given id s over)
      by_state state.Stopped over = by_test (answer.Started id) over _ _ (refused (answer.Started id) _) (λ accepted. refl)
      by_state state.Started over = refused (answer.Started id) _
      by_state state.Indexing over = refused (answer.Started id) _
      by_state state.Stopping over = refused (answer.Started id) _
      by_state state.Failed over = refused (answer.Started id) _

      by_standing : (o : Option Standing) → TellsOnly (answer.Started id) (spec.start_of past actor given id o)
      by_standing None = refused (answer.Started id) _
      by_standing (Some s) = by_state s.state s.is_over

  step_told : (id : List ℕ) → TellsOnly (answer.Stepped id) (spec.asked_step past id)
  step_told id = by_test (answer.Stepped id) (is_transform_id id) _ _ (by_there (is_some (transform_of id past))) (refused (answer.Stepped id) _)
    where
      by_there : (there : Bool) → TellsOnly (answer.Stepped id) (spec.step_of id there)
      by_there true = λ accepted. refl
      by_there false = refused (answer.Stepped id) _

  search_told : (name : List ℕ) (size : ℕ) → TellsOnly (answer.Shown (record { dest = name; after = None; size = size })) (spec.asked_search past name size None)
  search_told name size = by_test shows (spec.may_be_searched past name) _ _ (by_transform (find (is_into name) (transforms past))) (refused shows _)
    where
      shows : Answer
      shows = answer.Shown (record { dest = name; after = None; size = size })

      by_transform : (o : Option PutTransform) → TellsOnly (answer.Shown (record { dest = name; after = None; size = size })) (spec.search_in past name size None o)
      by_transform None = refused shows _
      by_transform (Some p) = λ accepted. refl

told_one : {a b : Answer} → Some a ≡ Some b → a ≡ b
told_one e = cc

not_told : (a : Answer) → ◌≡◌ {A = Option Answer} None (Some a) → ⊥
not_told a is = cc

-- a command that is not refused tells what it tells alone
told_is : (past : List Entry) (actor : ℕ) (given : ℤ) (o : Op) (a : Answer) → told_alone o ≡ Some a → is_refused (spec.asked past actor given o).answer ≡ false → (spec.asked past actor given o).answer ≡ a
told_is past actor given (op.CreateIndex name tree shards stamp quick) a is accepted = index_told past actor given name tree shards stamp accepted ∙ told_one is
told_is past actor given (op.PutTransform id config) a is accepted = put_told past actor given id config accepted ∙ told_one is
told_is past actor given (op.Start id) a is accepted = start_told past actor given id accepted ∙ told_one is
told_is past actor given (op.Step id) a is accepted = step_told past actor given id accepted ∙ told_one is
told_is past actor given op.Settle a is accepted = told_one is
told_is past actor given (op.Search name size None) a is accepted = search_told past actor given name size accepted ∙ told_one is
told_is past actor given o a is accepted = absurd (not_told a is)

-- of the pasts before and now, the one now tells the reply
by_now : (line : ℕ) (before now : List Entry) (o : Op) → reply_alone line now o ≡ option_map (reply_by line before now) (told_alone o)
by_now line before now (op.Search name size None) = refl
by_now line before now (op.Search name size (Some array)) = refl
by_now line before now o = refl

some_is : (r s : Reply) → ◌≡◌ {A = Option Reply} (Some r) (Some s) → r ≡ s
some_is r s e = cc

by_answer : (line : ℕ) (before now : List Entry) (o : Op) (r : Reply) (told : Option Answer) → told_alone o ≡ told → Some r ≡ option_map (reply_by line before now) told → IsAccepted before o
    → (actor : ℕ) (given : ℤ) → r ≡ reply_by line before now (spec.asked before actor given o).answer
by_answer line before now o r None is some accepted actor given = absurd (let no : ◌≡◌ {A = Option Reply} (Some r) None = some in cc)
by_answer line before now o r (Some a) is some accepted actor given =
    some_is r (reply_by line before now a) some ∙ ap (reply_by line before now) (sym (told_is before actor given o a is (accepted actor given)))

-- the reply to a command that is not refused
pub alone_replied : (line : ℕ) (before now : List Entry) (o : Op) (r : Reply) → Some r ≡ reply_alone line now o → IsAccepted before o
    → (actor : ℕ) (given : ℤ) → r ≡ reply_by line before now (spec.asked before actor given o).answer
alone_replied line before now o r some = by_answer line before now o r (told_alone o) refl (some ∙ by_now line before now o)

-- where something is told, there is one
pub never_none : (line : ℕ) (now : List Entry) (o : Op) → is_some (told_alone o) ≡ true → None ≡ reply_alone line now o → ⊥
never_none line now o = by (told_alone o)
  where
    by : (told : Option Answer) → is_some told ≡ true → None ≡ option_map (reply_by line now now) told → ⊥
    by None some none = let no : false ≡ true = some in cc
    by (Some a) some none = let no : ◌≡◌ {A = Option Reply} None (Some (reply_by line now now a)) = none in cc

-- ---- what moves follow
pub settling_accepted : (past : List Entry) (o : Op) → o ≡ op.Settle → IsAccepted past o
settling_accepted past o is actor given = ap (λ o. is_refused (spec.asked past actor given o).answer) is

-- what a step asks for of a transform that is there
pub step_asks : (past : List Entry) (actor : ℕ) (given : ℤ) (o : Op) (id : List ℕ) → o ≡ op.Step id → spec.may_step past id ≡ true
    → spec.asked past actor given o ≡ spec.tells (answer.Stepped id)
step_asks past actor given o id is there =
    ap (spec.asked past actor given) is
    ∙ (ap (λ b. cond b (spec.step_of id (is_some (transform_of id past))) (spec.refuses (refusal.BadName id))) (and_first (is_transform_id id) (is_some (transform_of id past)) there)
    ∙ ap (spec.step_of id) (and_second (is_transform_id id) (is_some (transform_of id past)) there))

pub step_accepted : (past : List Entry) (o : Op) (id : List ℕ) → o ≡ op.Step id → spec.may_step past id ≡ true → IsAccepted past o
step_accepted past o id is there actor given = ap (λ a. is_refused a.answer) (step_asks past actor given o id is there)
