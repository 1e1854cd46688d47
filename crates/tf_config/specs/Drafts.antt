-- The configuration that a tree stands for, where its form has no fault. What is absent has its default, and a number or a
-- span that is none stands as one that is out of range: an interval and a page size as 0, another span as -1.
use Rattle.std.specs.Prelude.{ℕ, ℤ, pos, negsuc, int_le, Bool, true, false, List, [], ◌∷◌, codes, Option, Some, None, unwrap_or, if◌then◌else◌}
use Rattle.std.specs.List.{filter_map}
use Rattle.std.specs.Option.{option_map, option_or, option_and_then}
use Rattle.std.specs.Str.{bytes_eq}
use Rattle.tf_model.specs.declared.config.Agg.{Agg}
use Rattle.tf_model.specs.declared.config.AggKind.{AggKind}
use Rattle.tf_model.specs.declared.config.AggKind.TheVariants.{Sum, Min, Max, ValueCount}
use Rattle.tf_model.specs.declared.config.Config.{Config}
use Rattle.tf_model.specs.declared.config.Group.{Group}
use Rattle.tf_model.specs.declared.config.GroupKind.{GroupKind}
use Rattle.tf_model.specs.declared.config.GroupKind.TheVariants.{Terms, Histogram, DateHistogram}
use Rattle.tf_model.specs.declared.config.Retention.{Retention}
use Rattle.tf_model.specs.declared.config.Shape.{Shape}
use Rattle.tf_model.specs.declared.config.Shape.TheVariants.{Pivot, Latest}
use Rattle.tf_model.specs.declared.config.SyncTime.{SyncTime}
use Rattle.tf_model.specs.declared.query.Query.{Query}
use Rattle.tf_model.specs.declared.tree.Tree.{Tree}
use Rattle.tf_model.specs.Trees.{text_in, number_in, truth_in, items_in, members_in, member_of}
use Rattle.tf_time.specs.Spans.{span}

-- the member with a name of a tree that may be absent
abbrev pub beside : List ℕ → Option Tree → Option Tree
beside name t = option_and_then (λ t. member_of t name) t

-- ---- values of members

abbrev pub text_or_none : Option Tree → List ℕ
text_or_none t = unwrap_or (option_and_then text_in t) []

abbrev pub truth_or : Bool → Option Tree → Bool
truth_or other t = unwrap_or (option_and_then truth_in t) other

-- the texts of an array
abbrev pub texts_in : Tree → List (List ℕ)
texts_in t = filter_map text_in (unwrap_or (items_in t) [])

abbrev pub texts_or_none : Option Tree → List (List ℕ)
texts_or_none None = []
texts_or_none (Some t) = texts_in t

-- a text alone, or those of an array
abbrev pub names_by : Option (List ℕ) → Tree → List (List ℕ)
names_by (Some name) t = name ∷ []
names_by None t = texts_in t

abbrev pub names_or_none : Option Tree → List (List ℕ)
names_or_none None = []
names_or_none (Some t) = names_by (text_in t) t

-- a span by its text, another number where it is absent, and -1 where it is none
abbrev pub span_or : ℤ → Option Tree → ℤ
span_or other None = other
span_or other (Some t) = unwrap_or (option_and_then span (text_in t)) (negsuc 0)

-- a fixed interval by its text, and 0 where it is none
abbrev pub fixed_interval : Option Tree → ℤ
fixed_interval t = unwrap_or (option_and_then span (option_and_then text_in t)) (pos 0)

-- a number from 0 to the greatest one, and 0 for any other
abbrev pub number_up_to : ℕ → ℤ → ℕ
number_up_to greatest (pos n) = if int_le (pos n) (pos greatest) then n else 0
number_up_to greatest (negsuc n) = 0

-- the interval of a histogram, at most 2^63 - 1
abbrev pub interval : Option Tree → ℕ
interval t = number_up_to 9223372036854775807 (unwrap_or (option_and_then number_in t) (pos 0))

-- the page size, at most 65,536
abbrev pub page_size_or : Option Tree → ℕ
page_size_or None = 500
page_size_or (Some t) = number_up_to 65536 (unwrap_or (number_in t) (pos 0))

-- ---- groups and aggregations

-- the one member of an object
abbrev pub only : {A : Type 0} → Option (List A) → Option A
only (Some (m ∷ [])) = Some m
only _ = None

abbrev pub group_kind : List ℕ → Tree → GroupKind
group_kind name t =
    if bytes_eq name (codes "histogram") then Histogram (interval (member_of t (codes "interval")))
    else (if bytes_eq name (codes "date_histogram") then DateHistogram (fixed_interval (member_of t (codes "fixed_interval")))
    else Terms)

-- a group by its name and its one member
abbrev pub group_by : List ℕ → List ℕ × Tree → Group
group_by name m = record {
  name = name;
  field = text_or_none (member_of m.1 (codes "field"));
  kind = group_kind m.0 m.1;
  missing_bucket = truth_or false (member_of m.1 (codes "missing_bucket"));
}

abbrev pub group_of : List ℕ × Tree → Option Group
group_of m = option_map (group_by m.0) (only (members_in m.1))

abbrev pub agg_kind : List ℕ → AggKind
agg_kind name =
    if bytes_eq name (codes "sum") then Sum
    else (if bytes_eq name (codes "min") then Min
    else (if bytes_eq name (codes "max") then Max
    else ValueCount))

-- an aggregation by its name and its one member
abbrev pub agg_by : List ℕ → List ℕ × Tree → Agg
agg_by name m = record { name = name; field = text_or_none (member_of m.1 (codes "field")); kind = agg_kind m.0 }

abbrev pub agg_of : List ℕ × Tree → Option Agg
agg_of m = option_map (agg_by m.0) (only (members_in m.1))

abbrev pub members_or_none : Option Tree → List (List ℕ × Tree)
members_or_none t = unwrap_or (option_and_then members_in t) []

abbrev pub groups : Option Tree → List Group
groups t = filter_map group_of (members_or_none t)

abbrev pub aggs : Option Tree → List Agg
aggs t = filter_map agg_of (members_or_none t)

-- ---- shapes

abbrev pub pivot : Tree → Shape
pivot t = Pivot (groups (member_of t (codes "group_by"))) (aggs (option_or (member_of t (codes "aggregations")) (member_of t (codes "aggs"))))

abbrev pub latest : Option Tree → Shape
latest t = Latest (texts_or_none (beside (codes "unique_key") t)) (text_or_none (beside (codes "sort") t))

-- the pivot, where there is one, and else the latest
abbrev pub shape_by : Option Tree → Option Tree → Shape
shape_by (Some t) other = pivot t
shape_by None other = latest other

-- ---- the rest

abbrev pub sync_time : Tree → SyncTime
sync_time t = record { field = text_or_none (member_of t (codes "field")); delay_ms = span_or (pos 60000) (member_of t (codes "delay")) }

abbrev pub retention_time : Tree → Retention
retention_time t = record { field = text_or_none (member_of t (codes "field")); max_age_ms = span_or (negsuc 0) (member_of t (codes "max_age")) }

-- the names of the sources
abbrev pub sources : Tree → List (List ℕ)
sources t = names_or_none (beside (codes "index") (member_of t (codes "source")))

abbrev pub dest : Tree → List ℕ
dest t = text_or_none (beside (codes "index") (member_of t (codes "dest")))

abbrev pub shape : Tree → Shape
shape t = shape_by (member_of t (codes "pivot")) (member_of t (codes "latest"))

abbrev pub sync : Tree → Option SyncTime
sync t = option_map sync_time (beside (codes "time") (member_of t (codes "sync")))

abbrev pub retention : Tree → Option Retention
retention t = option_map retention_time (beside (codes "time") (member_of t (codes "retention_policy")))

abbrev pub frequency : Tree → ℤ
frequency t = span_or (pos 60000) (member_of t (codes "frequency"))

abbrev pub page_size : Tree → ℕ
page_size t = page_size_or (beside (codes "max_page_search_size") (member_of t (codes "settings")))

abbrev pub align : Tree → Bool
align t = truth_or true (beside (codes "align_checkpoints") (member_of t (codes "settings")))

abbrev pub epoch_millis : Tree → Bool
epoch_millis t = truth_or false (beside (codes "dates_as_epoch_millis") (member_of t (codes "settings")))

abbrev pub description : Tree → List ℕ
description t = text_or_none (member_of t (codes "description"))

-- the configuration that a tree stands for, with its query
unfoldable pub drafted : Query → Tree → Config
drafted query t = record {
  sources = sources t;
  query = query;
  dest = dest t;
  shape = shape t;
  sync = sync t;
  retention = retention t;
  frequency_ms = frequency t;
  page_size = page_size t;
  align = align t;
  epoch_millis = epoch_millis t;
  description = description t;
}
