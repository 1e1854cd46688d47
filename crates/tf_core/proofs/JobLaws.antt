-- A running checkpoint goes on behind a Page.
use Rattle.std.proofs.Common.{◌≡◌, ℕ, Bool, List, ◌∷◌, Option, Some, None, refl, sym, ap, subst, ◌∙◌}
use Rattle.std.specs.Prelude.{IsSomeAnd, if◌then◌else◌}
use Rattle.tf_model.specs.declared.entry.Row.{Row}
use Rattle.tf_model.specs.declared.doc.Doc.{Doc}
use Rattle.tf_model.specs.declared.task.State.{State}
use Rattle.tf_model.specs.declared.task.State.TheVariants as state
use Rattle.tf_history.specs.Catalogue.{catalogue}
use Rattle.tf_history.specs.Legality.{may_stop}
use Rattle.tf_history.specs.Lives.{Life, act, documents, life, life_after, lived}
use Rattle.tf_history.specs.Lives.Act.{Aside, Pages}
use Rattle.tf_history.specs.Reading.{deed_of}
use Rattle.tf_mapping.specs.Documents.{values_of}
use Rattle.tf_core.specs.Job.{IsCheckpointOf, IsRunningAt, RunningCheckpointsGoOn, behind}
use Rattle.tf_core.specs.Legal.{read}
use Rattle.tf_core.proofs.Tables.{same_itself}

-- a Page changes nothing of whether a transform comes to its stop
stop_same : (docs : List Doc) (n : ℕ) (rows : List Row) (l : Life) (s : State) → may_stop s (lived docs (Pages n rows) l) ≡ may_stop s l
stop_same docs n rows l state.Stopped = refl
stop_same docs n rows l state.Started = refl
stop_same docs n rows l state.Indexing = refl
stop_same docs n rows l state.Stopping = refl
stop_same docs n rows l state.Failed = refl

pub running_checkpoints_go_on : RunningCheckpointsGoOn
running_checkpoints_go_on past id r rows e at is = by (life id (read past)) refl at
  where
    pages : (l : Life) → life id (read past) ≡ Some l → life id (read (e ∷ past)) ≡ Some (lived (documents (read past)) (Pages r.n rows) l)
    pages l there =
        (λ i. life_after (documents (read past)) (act id (record { moment = e.at_ms; deed = deed_of values_of (catalogue past) (is i) })) (there i))
        ∙ ap (λ (same : Bool). life_after (documents (read past)) (if same then Pages r.n rows else Aside) (Some l)) (same_itself id)

    by : (o : Option Life) → life id (read past) ≡ o → IsSomeAnd o (λ l. IsCheckpointOf l r) → IsRunningAt (e ∷ past) id (behind rows r)
    by None there runs = absurd runs
    by (Some l) there runs =
        subst (λ o. IsSomeAnd o (λ m. IsCheckpointOf m (behind rows r))) (sym (pages l there))
        (record {
          moved_on = record { runs = runs.moved_on.runs; active = runs.moved_on.active; no_stop = stop_same (documents (read past)) r.n rows l l.state ∙ runs.moved_on.no_stop };
          sources = runs.sources;
          means = runs.means;
          built_form = runs.built_form;
          in_range = runs.in_range;
          number = runs.number;
          low = runs.low;
          high = runs.high;
          position = refl;
          docs = runs.docs;
          fit = runs.fit;
        })
