-- The last finished checkpoint of a transform.
use Rattle.std.proofs.Common.{◌≡◌, true, false, List, [], ◌∷◌, refl, sym, ap, ◌∙◌}
use Rattle.std.specs.Prelude.{nat_lt, if◌then◌else◌}
use Rattle.tf_model.specs.declared.doc.Doc.{Doc}
use Rattle.tf_history.specs.Lives.{Checkpoint, Life, is_running, last_bound, read_last}
use Rattle.tf_core.specs.declared.transform.Transform.{Transform}
use Rattle.tf_core.specs.Finished.{IsFinishedOf, earlier, finished_in}
use Rattle.tf_core.specs.Summary.{IsSummary, bound_before, last_moment, moment_before, read_before}

bound_is : (cs : List Checkpoint) → bound_before cs ≡ last_bound (earlier cs)
bound_is [] = refl
bound_is (b ∷ before) = refl

moment_is : (cs : List Checkpoint) → moment_before cs ≡ last_moment (earlier cs)
moment_is [] = refl
moment_is (b ∷ before) = refl

read_is : (cs : List Checkpoint) → read_before cs ≡ read_last (earlier cs)
read_is [] = refl
read_is (b ∷ before) = refl

module _ (docs : List Doc) (t : Transform) (l : Life) (s : IsSummary docs t l) where
  runs_is : is_running l ≡ nat_lt t.finished t.begun
  runs_is = λ i. nat_lt (sym s.finished i) (sym s.begun i)

  -- while another runs
  pub finished_before : nat_lt t.finished t.begun ≡ true → IsFinishedOf docs l (record { n = t.finished; bound = t.low; at_ms = t.before_ms; read = t.before_read })
  finished_before e =
      let are : finished_in l ≡ earlier l.checkpoints = ap (λ b. if b then earlier l.checkpoints else l.checkpoints) (runs_is ∙ e) in
      record {
        number = s.finished;
        bound = s.low ∙ (bound_is l.checkpoints ∙ ap last_bound (sym are));
        moment = s.earlier_moment ∙ (moment_is l.checkpoints ∙ ap last_moment (sym are));
        read = ap read_last are ∙ (sym (read_is l.checkpoints) ∙ s.earlier_read);
      }

  -- while none runs
  pub finished_newest : nat_lt t.finished t.begun ≡ false → IsFinishedOf docs l (record { n = t.finished; bound = t.bound; at_ms = t.begun_ms; read = t.read })
  finished_newest e =
      let are : finished_in l ≡ l.checkpoints = ap (λ b. if b then earlier l.checkpoints else l.checkpoints) (runs_is ∙ e) in
      record {
        number = s.finished;
        bound = s.bound ∙ ap last_bound (sym are);
        moment = s.moment ∙ ap last_moment (sym are);
        read = ap read_last are ∙ s.read;
      }
