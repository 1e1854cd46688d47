-- Worked groupings and names, by computation.
use Rattle.std.proofs.Common.{◌≡◌, ℕ, ℤ, Bool, true, false, List, [], ◌∷◌, Option, Some, None, refl}
use Rattle.std.specs.Prelude.{pos, negsuc, codes}
use Rattle.tf_model.specs.declared.doc.Doc.{Doc}
use Rattle.tf_model.specs.declared.tree.Tree.TheVariants as tree
use Rattle.tf_model.specs.declared.value.Value.{Value}
use Rattle.tf_model.specs.declared.value.Value.TheVariants as value
use Rattle.tf_model.specs.declared.query.Query.TheVariants as query
use Rattle.tf_model.specs.declared.config.Config.{Config}
use Rattle.tf_model.specs.declared.config.SyncTime.{SyncTime}
use Rattle.tf_model.specs.declared.config.Shape.{Shape}
use Rattle.tf_model.specs.declared.config.Shape.TheVariants as shape
use Rattle.tf_model.specs.declared.config.GroupKind.TheVariants.{Terms, Histogram, DateHistogram}
use Rattle.tf_model.specs.declared.config.AggKind.TheVariants.{Sum, Max, ValueCount}
use Rattle.tf_model.specs.declared.entry.Row.{Row}
use Rattle.tf_model.specs.declared.entry.Row.TheVariants as row
use Rattle.tf_model.specs.Order.{key_cmp, value_cmp}
use Rattle.tf_model.specs.Names.{is_transform_id, is_index_name, is_field_path}
use Rattle.tf_model.specs.Values.{value_of}
use Rattle.tf_model.specs.Counted.{counts, counted}
use Rattle.tf_model.specs.Keys.{floor_to, key_of, keys_of, has_key, all_keys}
use Rattle.tf_model.specs.Rows.{with_key, pivot_row}
use Rattle.tf_model.specs.Latest.{place_cmp, sort_cmp, age_cmp, latest_row}
use Rattle.tf_model.specs.Retention.{retained, stays}
use Rattle.tf_model.specs.Scratch.{row_of, grouping, scratch}
use Rattle.tf_model.proofs.QueryLaws.{meets_all}

-- a configuration that takes every document
abbrev configured : Shape → Option SyncTime → Config
configured shape sync = record {
  sources = codes "s" ∷ [];
  query = query.MatchAll;
  dest = codes "d";
  shape = shape;
  sync = sync;
  retention = None;
  frequency_ms = pos 60000;
  page_size = 500;
  align = true;
  epoch_millis = false;
  description = [];
}

abbrev document : ℕ → ℕ → List (List ℕ × Value) → Doc
document shard seq values = record { index = 0; shard = shard; seq = seq; id = []; tree = tree.Null; values = values }

-- a histogram of interval 10 takes values down to multiples, the least value of an i64 too

abbrev numbered : ℕ → ℤ → Doc
numbered seq n = document 0 seq ((codes "v", value.Int n) ∷ [])

abbrev numbers : List Doc
numbers = numbered 0 (negsuc 0) ∷ numbered 1 (pos 0) ∷ numbered 2 (pos 9) ∷ numbered 3 (negsuc 9223372036854775807) ∷ []

abbrev by_tens : Config
by_tens = configured (shape.Pivot (record { name = codes "g"; field = codes "v"; kind = Histogram 10; missing_bucket = false } ∷ []) (record { name = codes "n"; field = codes "v"; kind = ValueCount } ∷ [])) None

abbrev count_row : Value → ℕ → Row
count_row part n = row.Pivot (record { parts = part ∷ [] }) (value.Int (pos n) ∷ [])

values_are_taken_down : scratch (0 ∷ []) by_tens None None numbers ≡ count_row (value.Int (negsuc 9223372036854775809)) 1 ∷ count_row (value.Int (negsuc 9)) 1 ∷ count_row (value.Int (pos 0)) 2 ∷ []
unfolding scratch grouping counted counts row_of pivot_row with_key has_key all_keys keys_of key_of floor_to value_of key_cmp value_cmp stays
values_are_taken_down = simp meets_all refl

-- missing values have a row of their own where the group asks for it, and else no key

abbrev named : List Doc
named = document 0 0 [] ∷ document 0 1 [] ∷ document 0 2 [] ∷ document 0 3 ((codes "k", value.Str (codes "x")) ∷ []) ∷ []

abbrev by_name : Bool → Config
by_name bucket = configured (shape.Pivot (record { name = codes "k"; field = codes "k"; kind = Terms; missing_bucket = bucket } ∷ []) (record { name = codes "n"; field = codes "k"; kind = ValueCount } ∷ [])) None

missing_values_have_a_row : scratch (0 ∷ []) (by_name true) None None named ≡ count_row value.Null 0 ∷ count_row (value.Str (codes "x")) 1 ∷ []
unfolding scratch grouping counted counts row_of pivot_row with_key has_key all_keys keys_of key_of floor_to value_of key_cmp value_cmp stays
missing_values_have_a_row = simp meets_all refl

missing_values_have_no_key : scratch (0 ∷ []) (by_name false) None None named ≡ count_row (value.Str (codes "x")) 1 ∷ []
unfolding scratch grouping counted counts row_of pivot_row with_key has_key all_keys keys_of key_of floor_to value_of key_cmp value_cmp stays
missing_values_have_no_key = simp meets_all refl

-- of equal sort values the latest takes the greater shard, and a greater sort value wins whenever it came

abbrev timed : ℕ → ℕ → ℕ → ℕ → Doc
timed shard seq ts level = document shard seq ((codes "level", value.Int (pos level)) ∷ (codes "ts", value.Date (pos ts)) ∷ (codes "u", value.Str (codes "x")) ∷ [])

abbrev newest_by : List ℕ → Config
newest_by sort = configured (shape.Latest (codes "u" ∷ []) sort) (Some (record { field = codes "ts"; delay_ms = pos 0 }))

abbrev latest_x : ℕ → ℕ → Row
latest_x shard seq = row.Latest (record { parts = value.Str (codes "x") ∷ [] }) 0 shard seq

greater_shard_wins_a_tie : scratch (0 ∷ []) (newest_by (codes "ts")) (Some (pos 2000)) None (timed 1 0 1000 1 ∷ timed 0 0 1000 1 ∷ []) ≡ latest_x 1 0 ∷ []
unfolding scratch grouping counted counts row_of latest_row with_key has_key all_keys keys_of key_of floor_to value_of key_cmp value_cmp place_cmp sort_cmp age_cmp stays
greater_shard_wins_a_tie = simp meets_all refl

greater_sort_value_wins : scratch (0 ∷ []) (newest_by (codes "level")) (Some (pos 3000)) None (timed 0 0 1000 7 ∷ timed 0 1 2000 5 ∷ []) ≡ latest_x 0 0 ∷ []
unfolding scratch grouping counted counts row_of latest_row with_key has_key all_keys keys_of key_of floor_to value_of key_cmp value_cmp place_cmp sort_cmp age_cmp stays
greater_sort_value_wins = simp meets_all refl

-- a shop's orders by customer and day below a bound, and the latest order of each customer

abbrev order : ℕ → List ℕ → ℕ → ℕ → Doc
order shard customer ms cents = document shard 0 ((codes "customer_id", value.Str customer) ∷ (codes "order_date", value.Date (pos ms)) ∷ (codes "taxful_cents", value.Int (pos cents)) ∷ [])

abbrev orders : List Doc
orders = order 1 (codes "38") 1709287200000 3699 ∷ order 2 (codes "38") 1709296200000 5300 ∷ order 0 (codes "52") 1709359200000 1999 ∷ []

abbrev on_order_date : Option SyncTime
on_order_date = Some (record { field = codes "order_date"; delay_ms = pos 60000 })

abbrev by_customer_and_day : Config
by_customer_and_day =
    configured
    (shape.Pivot
    (record { name = codes "customer"; field = codes "customer_id"; kind = Terms; missing_bucket = false } ∷ record { name = codes "day"; field = codes "order_date"; kind = DateHistogram (pos 86400000); missing_bucket = false } ∷ [])
    (record { name = codes "orders"; field = codes "customer_id"; kind = ValueCount } ∷ record { name = codes "total"; field = codes "taxful_cents"; kind = Sum } ∷ []))
    on_order_date

days_below_the_bound_are_summed : scratch (0 ∷ []) by_customer_and_day (Some (pos 1709337600000)) None orders
    ≡ row.Pivot (record { parts = value.Str (codes "38") ∷ value.Date (pos 1709251200000) ∷ [] }) (value.Int (pos 2) ∷ value.Int (pos 8999) ∷ []) ∷ []
unfolding scratch grouping counted counts row_of pivot_row with_key has_key all_keys keys_of key_of floor_to value_of key_cmp value_cmp stays
days_below_the_bound_are_summed = simp meets_all refl

abbrev latest_by_customer : Config
latest_by_customer = configured (shape.Latest (codes "customer_id" ∷ []) (codes "order_date")) on_order_date

latest_order_of_each_customer : scratch (0 ∷ []) latest_by_customer (Some (pos 1709423970000)) None orders
    ≡ row.Latest (record { parts = value.Str (codes "38") ∷ [] }) 0 2 0 ∷ row.Latest (record { parts = value.Str (codes "52") ∷ [] }) 0 0 0 ∷ []
unfolding scratch grouping counted counts row_of latest_row with_key has_key all_keys keys_of key_of floor_to value_of key_cmp value_cmp place_cmp sort_cmp age_cmp stays
latest_order_of_each_customer = simp meets_all refl

-- a row whose greatest date is below the cutoff is left out

abbrev by_name_with_age : Config
by_name_with_age = record
    (configured (shape.Pivot (record { name = codes "u"; field = codes "level"; kind = Terms; missing_bucket = false } ∷ []) (record { name = codes "last"; field = codes "ts"; kind = Max } ∷ []))
    (Some (record { field = codes "ts"; delay_ms = pos 0 })))
    { retention = Some (record { field = codes "last"; max_age_ms = pos 1000 }) }

rows_below_the_cutoff_are_left_out : scratch (0 ∷ []) by_name_with_age (Some (pos 2500)) (Some (pos 1500)) (timed 0 0 1000 1 ∷ timed 0 1 2000 2 ∷ [])
    ≡ row.Pivot (record { parts = value.Int (pos 2) ∷ [] }) (value.Date (pos 2000) ∷ []) ∷ []
unfolding scratch grouping counted counts row_of pivot_row with_key has_key all_keys keys_of key_of floor_to value_of key_cmp value_cmp stays retained
rows_below_the_cutoff_are_left_out = simp meets_all refl

-- names

ids_are_told : (is_transform_id (codes "a-1_b") ≡ true) × (is_transform_id (codes "a-") ≡ false) × (is_transform_id (codes "A") ≡ false) × (is_transform_id [] ≡ false)
unfolding is_transform_id
ids_are_told = (refl, refl, refl, refl)

index_names_are_told : (is_index_name (codes "a.b-c_d+") ≡ true) × (is_index_name (codes "_a") ≡ false) × (is_index_name (codes "a b") ≡ false) × (is_index_name (codes "aB") ≡ false) × (is_index_name (codes "..") ≡ false)
unfolding is_index_name
index_names_are_told = (refl, refl, refl, refl, refl)

paths_are_told : (is_field_path (codes "a.b") ≡ true) × (is_field_path (codes "a..b") ≡ false) × (is_field_path (codes ".a") ≡ false) × (is_field_path (codes "a.") ≡ false) × (is_field_path [] ≡ false)
unfolding is_field_path
paths_are_told = (refl, refl, refl, refl, refl)
