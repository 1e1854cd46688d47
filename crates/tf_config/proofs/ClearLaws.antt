-- Where nothing is refused nothing is at fault, and all numbers are in range.
use Rattle.std.proofs.Common.{◌≡◌, ℕ, ◌<◌, ◌≤◌, ◌^◌, Bool, true, false, ◌&&◌, List, [], ◌∷◌, ◌++◌, map, Option, Some, None, refl, ap, arith}
use Rattle.std.specs.Prelude.{ℤ, pos, nat_le, nat_lt, not, filter, is_none, codes, IfSome}
use Rattle.std.specs.List.{AllByRecursion}
use Rattle.std.specs.Option.{option_map, option_or, option_to_list}
use Rattle.std.proofs.lemmas.Bool.Decides.{nat_tests}
use Rattle.std.proofs.lemmas.Int.{ints}
use Rattle.std.proofs.lemmas.List.Elements.{All-from_recursion}
use Rattle.tf_model.specs.declared.config.Config.{Config}
use Rattle.tf_model.specs.declared.config.Group.{Group}
use Rattle.tf_model.specs.declared.config.GroupKind.{GroupKind}
use Rattle.tf_model.specs.declared.config.GroupKind.TheVariants.{Terms, Histogram, DateHistogram}
use Rattle.tf_model.specs.declared.config.Retention.{Retention}
use Rattle.tf_model.specs.declared.config.SyncTime.{SyncTime}
use Rattle.tf_model.specs.Conditions.{IsBetween, IsSpan, IsGroupInRange, IsInRange, greatest_date}
use Rattle.tf_model.specs.Keys.{groups_of}
use Rattle.tf_mapping.specs.Least.{least_text}
use Rattle.tf_mapping.proofs.LeastLaws.{none_least}
use Rattle.tf_config.specs.declared.error.ConfigError.{ConfigError}
use Rattle.tf_config.specs.declared.error.ConfigError.TheVariants as error
use Rattle.tf_config.specs.declared.query.QueryFaults.{QueryFaults}
use Rattle.tf_config.specs.Catalogue.{Indices, mappings_of}
use Rattle.tf_config.specs.Checks.{told_if, too_long, too_deep, unmapped_fields, is_within, is_span, has_interval, bad_delay, bad_max_age}
use Rattle.tf_config.specs.Clear.{IsClear}
use Rattle.tf_config.specs.Refusals.{Faults, first_refusal, faults_in, refusal_by, refusal_of, passes, no_faults}
use Rattle.tf_config.proofs.EmptyLists.{none_of_both, none_mapped, not_told, is_true, none_pass, all_weaker}

-- ---- nothing is at fault
none_before : (a b : Option ConfigError) → option_or a b ≡ None → (a ≡ None) × (b ≡ None)
none_before None b none = (refl, none)
none_before (Some e) b none = absurd (cc)

none_told : (f : List ℕ → ConfigError) (o : Option (List ℕ)) → option_map f o ≡ None → o ≡ None
none_told f None none = refl
none_told f (Some what) none = absurd (cc)

pub all_clear : (kinds : List Faults) → first_refusal kinds ≡ None → AllByRecursion (λ (faults : Faults). faults.1 ≡ []) kinds
all_clear [] none = tt
all_clear (faults ∷ kinds) none =
    let parts = none_before (option_map faults.0 (least_text faults.1)) (first_refusal kinds) none in
    (none_least faults.1 (none_told faults.0 (least_text faults.1) parts.0), all_clear kinds parts.1)

pub clear_by : (indices : Indices) (need_dest : Bool) (query : QueryFaults) (c : Config) → refusal_by indices need_dest query c ≡ None → IsClear indices need_dest c
unfolding refusal_by
clear_by indices need_dest query c none =
    let all = all_clear (faults_in indices need_dest query c) none in
    let many = none_of_both (too_long c ++ too_deep c) (option_to_list query.too_deep) all.1.1.0 in
    let lists = none_of_both (too_long c) (too_deep c) many.0 in
    record {
      empty_lists = all.0;
      unfit_query = all.1.0;
      too_long = lists.0;
      too_deep = lists.1;
      ill_named = all.1.1.1.0;
      absent_sources = all.1.1.1.1.0;
      twice_named = all.1.1.1.1.1.0;
      unmapped_fields = (none_of_both (unmapped_fields (mappings_of indices c.sources) c) (option_to_list query.unmapped) all.1.1.1.1.1.1.0).0;
      mixed_fields = all.1.1.1.1.1.1.1.0;
      undated_fields = all.1.1.1.1.1.1.1.1.0;
      unnumbered_fields = all.1.1.1.1.1.1.1.1.1.0;
      bad_intervals = all.1.1.1.1.1.1.1.1.1.1.0;
      bad_spans = all.1.1.1.1.1.1.1.1.1.1.1.0;
      bad_page_size = all.1.1.1.1.1.1.1.1.1.1.1.1.0;
      bad_frequency = all.1.1.1.1.1.1.1.1.1.1.1.1.1.0;
    }

pass_none : (o : Option ConfigError) → is_none o ≡ true → o ≡ None
pass_none None h = refl
pass_none (Some e) h = absurd (cc)

pub passes_clear : (indices : Indices) (c : Config) → passes indices c ≡ true → IsClear indices true c
passes_clear indices c h = clear_by indices true no_faults c (pass_none (refusal_of indices c) h)

-- and where nothing is at fault, nothing is refused
pub none_refused : (indices : Indices) (need_dest : Bool) (c : Config) → IsClear indices need_dest c → refusal_by indices need_dest no_faults c ≡ None
unfolding refusal_by
none_refused indices need_dest c clear = λ i. first_refusal (
    (error.Missing, clear.empty_lists i)
    ∷ (error.WrongKind, clear.unfit_query i)
    ∷ (error.TooMany, (clear.too_long i ++ clear.too_deep i) ++ [])
    ∷ (error.BadName, clear.ill_named i)
    ∷ (error.NoSuchIndex, clear.absent_sources i)
    ∷ (error.TwiceName, clear.twice_named i)
    ∷ (error.NoSuchField, clear.unmapped_fields i ++ [])
    ∷ (error.FieldTypes, clear.mixed_fields i)
    ∷ (error.NotADate, clear.undated_fields i)
    ∷ (error.NotANumber, clear.unnumbered_fields i)
    ∷ (error.BadInterval, clear.bad_intervals i)
    ∷ (error.BadSpan, clear.bad_spans i)
    ∷ (error.PageSizeRange, clear.bad_page_size i)
    ∷ (error.FrequencyRange, clear.bad_frequency i)
    ∷ [])

pub clear_passes : (indices : Indices) (c : Config) → IsClear indices true c → passes indices c ≡ true
clear_passes indices c clear = ap is_none (none_refused indices true c clear)

-- ---- numbers
pub within : (low high n : ℤ) → is_within low high n ≡ true → IsBetween low high n
within low high n h = (grind (arith, ints), grind (arith, ints))

whole_interval : (interval : ℕ) → (nat_lt 0 interval && nat_lt interval (2 ^ 63)) ≡ true → (1 ≤ interval) × (interval < 2 ^ 63)
whole_interval interval h = (grind (arith, nat_tests), grind (arith, nat_tests))

interval : (kind : GroupKind) → has_interval kind ≡ true → IsGroupInRange kind
interval Terms h = tt
interval (Histogram i) h = whole_interval i h
interval (DateHistogram step) h = within (pos 1) greatest_date step h

delay : (o : Option SyncTime) → bad_delay o ≡ [] → IfSome o (λ sync. IsSpan sync.delay_ms)
delay None none = tt
delay (Some sync) none = within (pos 0) greatest_date sync.delay_ms (is_true (is_span sync.delay_ms) (not_told (not (is_span sync.delay_ms)) (codes "delay") none))

max_age : (o : Option Retention) → bad_max_age o ≡ [] → IfSome o (λ retention. IsSpan retention.max_age_ms)
max_age None none = tt
max_age (Some retention) none = within (pos 0) greatest_date retention.max_age_ms (is_true (is_span retention.max_age_ms) (not_told (not (is_span retention.max_age_ms)) (codes "max_age") none))

page_size : (n : ℕ) → (nat_le 10 n && nat_le n 65536) ≡ true → (10 ≤ n) × (n ≤ 65536)
page_size n h = (grind (arith, nat_tests), grind (arith, nat_tests))

abbrev HasNoInterval : Group → Type 0
HasNoInterval group = not (has_interval group.kind) ≡ false

intervals : (groups : List Group) → map (λ (group : Group). group.name) (filter (λ (group : Group). not (has_interval group.kind)) groups) ≡ []
    → AllByRecursion (λ (group : Group). IsGroupInRange group.kind) groups
intervals groups none =
    let bad = filter (λ (group : Group). not (has_interval group.kind)) groups in
    all_weaker HasNoInterval (λ (group : Group). IsGroupInRange group.kind) (λ group h. interval group.kind (is_true (has_interval group.kind) h)) groups
    (none_pass (λ (group : Group). not (has_interval group.kind)) groups (none_mapped (λ (group : Group). group.name) bad none))

pub clear_in_range : (indices : Indices) (need_dest : Bool) (c : Config) → IsClear indices need_dest c → IsInRange c
clear_in_range indices need_dest c clear =
    let spans = none_of_both (bad_delay c.sync ++ bad_max_age c.retention) (told_if (not (is_span c.frequency_ms)) (codes "frequency")) clear.bad_spans in
    let fields = none_of_both (bad_delay c.sync) (bad_max_age c.retention) spans.0 in
    let often = not (is_within (pos 1000) (pos 3600000) c.frequency_ms) in
    let paged = nat_le 10 c.page_size && nat_le c.page_size 65536 in
    record {
      groups = All-from_recursion (λ (group : Group). IsGroupInRange group.kind) (groups_of c.shape) (intervals (groups_of c.shape) clear.bad_intervals);
      delay = delay c.sync fields.0;
      max_age = max_age c.retention fields.1;
      frequency = within (pos 1000) (pos 3600000) c.frequency_ms (is_true (is_within (pos 1000) (pos 3600000) c.frequency_ms) (not_told often (codes "frequency") clear.bad_frequency));
      page_size = page_size c.page_size (is_true paged (not_told (not paged) (codes "max_page_search_size") clear.bad_page_size));
    }

pub passing_is_in_range : (indices : Indices) (c : Config) → passes indices c ≡ true → IsInRange c
passing_is_in_range indices c h = clear_in_range indices true c (passes_clear indices c h)
