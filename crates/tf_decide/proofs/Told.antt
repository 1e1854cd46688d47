-- How a transform stands that is started.
use Rattle.std.proofs.Common.{◌≡◌, ℕ, cond, List, [], ◌∷◌, ◌++◌, Option, Some, None, refl, sym, ap, ◌∙◌}
use Rattle.std.specs.Prelude.{nat_lt, reverse}
use Rattle.tf_model.specs.declared.doc.Doc.{Doc}
use Rattle.tf_model.specs.declared.entry.Entry.{Entry}
use Rattle.tf_model.specs.declared.entry.Kind.{Kind}
use Rattle.tf_model.specs.declared.entry.Kind.TheVariants as kind
use Rattle.tf_model.specs.declared.task.State.TheVariants as state
use Rattle.tf_history.specs.Lives.{Life, act, documents, life, life_after, state_turned}
use Rattle.tf_history.specs.Lives.Act.{Aside, Turns}
use Rattle.tf_history.specs.Lives.Turn.{Starts}
use Rattle.tf_history.specs.Catalogue.{catalogue}
use Rattle.tf_history.specs.Reading.{event_of}
use Rattle.tf_core.specs.declared.transform.Transform.{Transform}
use Rattle.tf_mapping.specs.Documents.{values_of}
use Rattle.tf_core.specs.Legal.{read}
use Rattle.tf_core.specs.Summary.{IsSummary}
use Rattle.tf_core.specs.Table.{Tells}
use Rattle.tf_core.proofs.AllowedTransforms.{no_life}
use Rattle.tf_core.proofs.Tables.{same_itself}
use Rattle.tf_reply.specs.declared.replies.Reply.TheVariants as reply
use Rattle.tf_decide.specs.Ready.{kinds}
use Rattle.tf_decide.specs.Replying.{task}

-- the life after a Start
start_after : (past : List Entry) (e : Entry) (id : List ℕ) → e.kind ≡ kind.Start id → life id (read (e ∷ past)) ≡ life_after (documents (read past)) (Turns Starts) (life id (read past))
start_after past e id is =
    (λ i. life_after (documents (read past)) (act id (event_of values_of (catalogue past) (record { at_ms = e.at_ms; actor = e.actor; kind = is i }))) (life id (read past)))
    ∙ ap (λ b. life_after (documents (read past)) (cond b (Turns Starts) Aside) (life id (read past))) (same_itself id)

pub started_life : (entries past : List Entry) (id : List ℕ) → kinds entries ≡ kind.Start id ∷ []
    → life id (read (reverse entries ++ past)) ≡ life_after (documents (read past)) (Turns Starts) (life id (read past))
started_life [] past id is = absurd (let none : ◌≡◌ {A = List Kind} [] (kind.Start id ∷ []) = is in cc)
started_life (e ∷ []) past id is = start_after past e id (let same : e.kind ≡ kind.Start id = cc in same)
started_life (e ∷ f ∷ entries) past id is = absurd (let more : ◌≡◌ {A = List Kind} (e.kind ∷ f.kind ∷ kinds entries) (kind.Start id ∷ []) = is in cc)

pub none_told : (line count : ℕ) (entries past : List Entry) (id : List ℕ) → kinds entries ≡ kind.Start id ∷ [] → life id (read past) ≡ None
    → reply.Task line count id state.Stopped 0 ≡ task line count id (life id (read (reverse entries ++ past)))
none_told line count entries past id is none =
    ap (task line count id) (sym (started_life entries past id is ∙ ap (life_after (documents (read past)) (Turns Starts)) none))

pub life_told : (line count : ℕ) (entries past : List Entry) (id : List ℕ) (docs : List Doc) (t : Transform) (l : Life) → kinds entries ≡ kind.Start id ∷ [] → life id (read past) ≡ Some l
    → IsSummary docs t l
    → reply.Task line count id (state_turned Starts (nat_lt t.finished t.begun) state.Stopped) t.finished ≡ task line count id (life id (read (reverse entries ++ past)))
life_told line count entries past id docs t l is some sum =
    (λ i. reply.Task line count id (state_turned Starts (nat_lt (sum.finished i) (sum.begun i)) state.Stopped) (sum.finished i))
    ∙ ap (task line count id) (sym (started_life entries past id is ∙ ap (life_after (documents (read past)) (Turns Starts)) some))

pub by_tells : (line count : ℕ) (entries past : List Entry) (id : List ℕ) (docs : List Doc) (t : Transform) (o : Option Life) → life id (read past) ≡ o → kinds entries ≡ kind.Start id ∷ [] → Tells docs (Some t) o
    → reply.Task line count id (state_turned Starts (nat_lt t.finished t.begun) state.Stopped) t.finished ≡ task line count id (life id (read (reverse entries ++ past)))
by_tells line count entries past id docs t None some is tells = absurd tells
by_tells line count entries past id docs t (Some l) some is tells = life_told line count entries past id docs t l is some tells

pub by_none : (line count : ℕ) (entries past : List Entry) (id : List ℕ) (docs : List Doc) → kinds entries ≡ kind.Start id ∷ [] → Tells docs None (life id (read past))
    → reply.Task line count id state.Stopped 0 ≡ task line count id (life id (read (reverse entries ++ past)))
by_none line count entries past id docs is tells = none_told line count entries past id is (no_life docs (life id (read past)) tells)

-- ---- how a transform stands
pub none_stands : (line count : ℕ) (id : List ℕ) (docs : List Doc) (o : Option Life) → Tells docs None o → reply.Task line count id state.Stopped 0 ≡ task line count id o
none_stands line count id docs None tells = refl
none_stands line count id docs (Some l) tells = absurd tells

pub one_stands : (line count : ℕ) (id : List ℕ) (docs : List Doc) (t : Transform) (o : Option Life) → Tells docs (Some t) o → reply.Task line count id t.state t.finished ≡ task line count id o
one_stands line count id docs t None tells = absurd tells
one_stands line count id docs t (Some l) tells = λ i. reply.Task line count id (tells.state i) (tells.finished i)
