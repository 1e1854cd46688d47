-- The transforms that a history has put and not deleted.
use Rattle.std.specs.Prelude.{ℕ, not, List, [], ◌∷◌, filter, Option}
use Rattle.std.specs.List.{find}
use Rattle.tf_model.specs.declared.config.Config.{Config}
use Rattle.tf_model.specs.declared.entry.Entry.{Entry}
use Rattle.tf_model.specs.declared.entry.Kind.{Kind}
use Rattle.tf_model.specs.declared.entry.Kind.TheVariants as kind
use Rattle.tf_history.specs.Meaning.{Meaning}
use Rattle.tf_history.specs.Configured.{meaning}
use Rattle.tf_history.specs.Catalogue.{SourceIndex, catalogue, source_numbers}
use Rattle.tf_history.specs.Lives.{is_same}

-- a transform as it was put
pub record PutTransform : Type 0 where
  pub id : List ℕ
  pub sources : List ℕ  -- the numbers of its sources, in the order of the configuration
  pub config : Config

-- the transforms after an entry, where these indices were there before it
abbrev pub transforms_after : List SourceIndex → Kind → List PutTransform → List PutTransform
transforms_after indices (kind.Put id config) before = record { id = id; sources = source_numbers indices config.sources; config = config } ∷ before
transforms_after indices (kind.Delete id) before = filter (λ (p : PutTransform). not (is_same id p.id)) before
transforms_after indices _ before = before

-- the transforms that a past has put and not deleted, newest first
abbrev pub transforms : List Entry → List PutTransform
transforms [] = []
transforms (e ∷ past) = transforms_after (catalogue past) e.kind (transforms past)

-- the transform with an id, none where it does not exist
abbrev pub transform_of : List ℕ → List Entry → Option PutTransform
transform_of t past = find (λ (p : PutTransform). is_same t p.id) (transforms past)

-- what a transform's configuration means
abbrev pub meaning_of : PutTransform → Meaning
meaning_of p = meaning p.sources p.config
