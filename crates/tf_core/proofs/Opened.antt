-- The step of a Put.
use Rattle.std.proofs.Common.{◌≡◌, ℕ, ℤ, List, ◌∷◌, refl, sym, ap, subst}
use Rattle.tf_model.specs.declared.config.Config.{Config}
use Rattle.tf_model.specs.declared.entry.Entry.{Entry}
use Rattle.tf_model.specs.declared.entry.Kind.TheVariants as kind
use Rattle.tf_history.specs.Catalogue.{SourceIndex, source_numbers}
use Rattle.tf_history.specs.Configured.{meaning}
use Rattle.tf_history.specs.Lives.{is_same}
use Rattle.tf_history.specs.Lives.Act.{Opens}
use Rattle.tf_history.specs.Transforms.{PutTransform}
use Rattle.tf_core.specs.declared.ready.Step.TheVariants as step
use Rattle.tf_core.specs.declared.transform.Transform.{Transform}
use Rattle.tf_core.specs.Chain.{Paged}
use Rattle.tf_core.specs.Made.{IsOpened, IsStepFor}
use Rattle.tf_core.specs.Steps.{only}
use Rattle.tf_core.specs.Summary.{put_of}

module _ (indices : List SourceIndex) (pages : List Paged) (id : List ℕ) (config : Config) (t : Transform) (o : IsOpened indices pages id config t) where
  put_is : put_of t ≡ record { id = id; sources = source_numbers indices config.sources; config = config }
  put_is = λ i. record { id = o.named i; sources = o.sources i; config = o.configured i }

  put_of_entry : (at_ms : ℤ) (actor : ℕ) → IsStepFor indices pages (record { at_ms = at_ms; actor = actor; kind = kind.Put id config }) (step.Put t)
  put_of_entry at_ms actor = record {
    step = record {
      makes_is = refl;
      writes_is = refl;
      puts_is = λ before. ap (λ (p : PutTransform). p ∷ before) (sym put_is);
      acts_is = λ other. sym (ap (λ (p : PutTransform). only p.id (Opens (meaning p.sources p.config)) other) put_is);
      names_is = λ other. ap (is_same other) (sym o.named);
      has_life = λ past allowed. tt;
      sound = o.summary;
    };
    has = o.room;
    page = refl;
  }

  pub put_step : (e : Entry) → e.kind ≡ kind.Put id config → IsStepFor indices pages e (step.Put t)
  put_step e is = subst (λ k. IsStepFor indices pages (record { at_ms = e.at_ms; actor = e.actor; kind = k }) (step.Put t)) (sym is) (put_of_entry e.at_ms e.actor)
