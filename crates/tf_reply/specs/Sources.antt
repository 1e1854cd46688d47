-- The `_source` of a pivot's row.
use Rattle.std.specs.Prelude.{ℤ, Bool, List, ◌++◌, if◌then◌else◌, map}
use Rattle.std.specs.List.{AllByRecursion, zip}
use Rattle.tf_model.specs.declared.config.Agg.{Agg}
use Rattle.tf_model.specs.declared.config.Group.{Group}
use Rattle.tf_model.specs.declared.tree.Tree.{Tree}
use Rattle.tf_model.specs.declared.tree.Tree.TheVariants as tree
use Rattle.tf_model.specs.declared.value.Key.{Key}
use Rattle.tf_model.specs.declared.value.Value.{Value}
use Rattle.tf_model.specs.declared.value.Value.TheVariants as value
use Rattle.tf_model.specs.Conditions.{IsDate}
use Rattle.tf_time.specs.Parts.{date_text}
use Rattle.tf_reply.specs.Objects.{Member, object}

-- a date is of the years 0 to 9999
abbrev pub IsShowable : Value → Type 0
IsShowable (value.Date ms) = IsDate ms
IsShowable _ = Unit {0}

abbrev pub AreShowable : List Value → Type 0
AreShowable values = AllByRecursion IsShowable values

-- a date as a row shows it: its text, or its milliseconds since 1970
abbrev pub shown_date : Bool → ℤ → Tree
shown_date epoch_millis ms = if epoch_millis then tree.Num ms else tree.Str (date_text ms)

-- a part of a key, or a value, as a row shows it; a missing one is null
abbrev pub shown : Bool → Value → Tree
shown epoch_millis value.Null = tree.Null
shown epoch_millis (value.Bool truth) = tree.Bool truth
shown epoch_millis (value.Int n) = tree.Num n
shown epoch_millis (value.Date ms) = shown_date epoch_millis ms
shown epoch_millis (value.Str text) = tree.Str text

-- each group's name beside its part of the key
abbrev pub group_members : Bool → List Group → List Value → List Member
group_members epoch_millis groups parts = zip (map (λ g. g.name) groups) (map (shown epoch_millis) parts)

-- each aggregation's name beside its value
abbrev pub agg_members : Bool → List Agg → List Value → List Member
agg_members epoch_millis aggs values = zip (map (λ a. a.name) aggs) (map (shown epoch_millis) values)

abbrev pub pivot_source : List Group → List Agg → Bool → Key → List Value → Tree
pivot_source groups aggs epoch_millis key values = object (group_members epoch_millis groups key.parts ++ agg_members epoch_millis aggs values)
