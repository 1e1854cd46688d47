-- The job of a transform is that of its next move.
use Rattle.std.proofs.Common.{◌≡◌, ℕ, ◌≤◌, true, ◌&&◌, not, List, length, take, Some, None, sym, ap, subst, ◌∙◌}
use Rattle.std.specs.Prelude.{ℤ, IsSomeAnd, nat_lt, option_and_then}
use Rattle.tf_model.specs.declared.doc.Doc.{Doc}
use Rattle.tf_model.specs.declared.entry.Entry.{Entry}
use Rattle.tf_model.specs.Conditions.{AllFit, IsInRange, IsSpan}
use Rattle.tf_history.specs.Catalogue.{SourceIndex}
use Rattle.tf_history.specs.Configured.{meaning}
use Rattle.tf_history.specs.Legality.{is_active, move_of, next_move}
use Rattle.tf_history.specs.Lives.{Life, from_sources, is_running, life, read_last}
use Rattle.tf_history.specs.Lives as lives
use Rattle.tf_reader.specs.Places.{documents}
use Rattle.tf_core.specs.declared.job.Running.{Running}
use Rattle.tf_core.specs.declared.transform.Transform.{Transform}
use Rattle.tf_core.specs.Allowing.{may_stop, read_by}
use Rattle.tf_core.specs.Built.{is_built_config}
use Rattle.tf_core.specs.Job.{IsCheckpointOf, IsRunningAt}
use Rattle.tf_core.specs.Legal.{read}
use Rattle.tf_core.specs.Moves.{IsRunningOf, is_moved_on}
use Rattle.tf_core.specs.Passed.{HasMark}
use Rattle.tf_core.specs.Standing.{Stands}
use Rattle.tf_core.specs.Table.{Tells, transform_at}
use Rattle.tf_core.proofs.AllowedKinds.{config_in_range, docs_fit}
use Rattle.tf_core.proofs.AllowedTransforms.{form_is, no_life, stop_is}
use Rattle.tf_core.proofs.Begun.{begun_in_range, few_finished, one_more}
use Rattle.tf_core.proofs.NextKind.{has_life}
use Rattle.tf_core.proofs.Truths.{both, not_true}

-- a transform that is not there has no next move
pub none_there : (past : List Entry) (indices : List SourceIndex) (docs : List Doc) (ts : List Transform) → Stands past indices docs ts → (id : List ℕ) (moment : ℤ) → transform_at id ts ≡ None → next_move id (read past) moment ≡ None
none_there past indices docs ts s id moment there =
    let none : life id (read past) ≡ None = no_life docs (life id (read past)) (subst (λ o. Tells docs o (life id (read past))) there (s.lives id)) in
    ap (option_and_then (λ (l : Life). move_of id l (lives.documents (read past)) moment)) none

module _ (past : List Entry) (indices : List SourceIndex) (docs : List Doc) (ts : List Transform) (s : Stands past indices docs ts) (id : List ℕ) (t : Transform) (there : transform_at id ts ≡ Some t) where
  pub is_marked : HasMark t docs
  is_marked = (has_life past indices docs ts s id t there).tells.marked

  pub finished_few : t.finished ≤ length past
  finished_few =
      let h = has_life past indices docs ts s id t there in
      subst (λ n. n ≤ length past) (sym h.tells.finished) (few_finished past s.taken id h.found h.is)

  -- its newest checkpoint began at a moment in range
  pub begun_span : IsSpan t.begun_ms
  begun_span =
      let h = has_life past indices docs ts s id t there in
      subst IsSpan (sym h.tells.moment) (begun_in_range past s.taken id h.found h.is)

  -- the newest checkpoint, where it is moved on, is the running one
  pub running_at : is_moved_on t ≡ true → (r : Running) → IsRunningOf t docs r → IsRunningAt past id r
  running_at e r is =
      let h = has_life past indices docs ts s id t there in
      let l = h.found in
      let sum = h.tells in
      let moved = both (not (may_stop t)) (nat_lt t.finished t.begun && is_active t.state) e in
      let index = both (nat_lt t.finished t.begun) (is_active t.state) moved.1 in
      let docs_are : documents r.reader ≡ read_last l.checkpoints =
      is.docs_are ∙ sym (sum.read ∙ ap (λ m. from_sources m (take t.read docs)) sum.meaning_is) in
      let runs : is_running l ≡ true = (λ i. nat_lt (sym sum.finished i) (sym sum.begun i)) ∙ index.0 in
      subst (λ o. IsSomeAnd o (λ m. IsCheckpointOf m r)) (sym h.is)
      (record {
        moved_on = record {
          runs = runs;
          active = ap is_active (sym sum.state) ∙ index.1;
          no_stop = sym (stop_is docs t l sum) ∙ not_true (may_stop t) moved.0;
        };
        sources = t.sources;
        means = sum.meaning_is ∙ ap (meaning t.sources) (sym is.config);
        built_form = subst (λ c. is_built_config c ≡ true) (sym is.config) (form_is past indices docs ts s id t there).form;
        in_range = subst IsInRange (sym is.config) (config_in_range past indices docs ts s id t there);
        number = is.number ∙ (sum.begun ∙ sym (one_more past s.taken id l h.is runs));
        low = is.low ∙ sum.low;
        high = is.high ∙ sum.bound;
        position = is.position ∙ sum.position;
        docs = docs_are;
        fit = subst (λ (p : List Doc). AllFit r.config p) (sym is.docs_are) (subst (λ c. AllFit c (read_by t docs)) (sym is.config) (docs_fit past indices docs ts s id t there));
      })
