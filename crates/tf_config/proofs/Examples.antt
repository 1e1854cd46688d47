-- Worked checks, by computation.
use Rattle.std.proofs.Common.{◌≡◌, ℕ, Bool, true, false, List, [], ◌∷◌, Option, Some, None, refl}
use Rattle.std.specs.Prelude.{pos, neg_ℤ, codes}
use Rattle.tf_model.specs.declared.config.Agg.{Agg}
use Rattle.tf_model.specs.declared.config.AggKind.TheVariants.{Sum, Max}
use Rattle.tf_model.specs.declared.config.Config.{Config}
use Rattle.tf_model.specs.declared.config.Group.{Group}
use Rattle.tf_model.specs.declared.config.GroupKind.TheVariants.{Terms, DateHistogram}
use Rattle.tf_model.specs.declared.config.Shape.{Shape}
use Rattle.tf_model.specs.declared.config.Shape.TheVariants.{Pivot, Latest}
use Rattle.tf_model.specs.declared.query.FieldType.TheVariants.{Keyword, Long, Date}
use Rattle.tf_model.specs.declared.query.Query.{Query}
use Rattle.tf_model.specs.declared.query.Query.TheVariants as query
use Rattle.tf_model.specs.declared.value.Value.{Value}
use Rattle.tf_model.specs.declared.value.Value.TheVariants as value
use Rattle.tf_model.specs.Names.{is_index_name}
use Rattle.tf_model.specs.Values.{type_of}
use Rattle.tf_query.proofs.FieldLaws.{fields_all, fields_range}
use Rattle.tf_query.proofs.NestingLaws.{nesting_all, nesting_range}
use Rattle.tf_query.proofs.TypeLaws.{types_all, types_range}
use Rattle.tf_config.specs.declared.error.ConfigError.TheVariants as error
use Rattle.tf_config.specs.Catalogue.{Indices, fields_of}
use Rattle.tf_config.specs.Refusals.{refusal_by, refusal_of, passes}

-- ---- indices: the second has a text where the first has a number
abbrev indices : Indices
indices = (codes "orders", record { fields = (codes "customer", Keyword) ∷ (codes "price", Long) ∷ (codes "ts", Date) ∷ [] })
    ∷ (codes "returns", record { fields = (codes "price", Keyword) ∷ (codes "reason", Keyword) ∷ (codes "ts", Date) ∷ [] }) ∷ []

fields_of_both_sources : fields_of indices (codes "returns" ∷ codes "orders" ∷ codes "nowhere" ∷ [])
    ≡ record { fields = (codes "customer", Keyword) ∷ (codes "price", Keyword) ∷ (codes "reason", Keyword) ∷ (codes "ts", Date) ∷ [] }
unfolding fields_of
fields_of_both_sources = refl

-- ---- configurations
abbrev by_customer : Group
by_customer = record { name = codes "customer"; field = codes "customer"; kind = Terms; missing_bucket = false }

abbrev by_day : Group
by_day = record { name = codes "day"; field = codes "ts"; kind = DateHistogram (pos 86400000); missing_bucket = false }

abbrev total : Agg
total = record { name = codes "total"; field = codes "price"; kind = Sum }

abbrev batch : List (List ℕ) → Shape → Config
batch sources shape = record {
  sources = sources;
  query = query.MatchAll;
  dest = codes "summary";
  shape = shape;
  sync = None;
  retention = None;
  frequency_ms = pos 60000;
  page_size = 500;
  align = true;
  epoch_millis = false;
  description = [];
}

a_pivot_passes : passes indices (batch (codes "orders" ∷ []) (Pivot (by_customer ∷ by_day ∷ []) (total ∷ []))) ≡ true
unfolding refusal_by fields_of type_of is_index_name
a_pivot_passes = simp (types_all, nesting_all, fields_all) refl

a_continuous_latest_passes : passes indices (record (batch (codes "orders" ∷ codes "returns" ∷ []) (Latest (codes "customer" ∷ []) (codes "ts"))) {
  sync = Some (record { field = codes "ts"; delay_ms = pos 60000 });
  retention = Some (record { field = codes "ts"; max_age_ms = pos 0 });
}) ≡ true
unfolding refusal_by fields_of type_of is_index_name
a_continuous_latest_passes = simp (types_all, nesting_all, fields_all) refl

-- a pivot over the prices between two ends
abbrev between : Option Value → Bool → Option Value → Bool → Config
between low low_open high high_open = record (batch (codes "orders" ∷ []) (Pivot (by_customer ∷ []) [])) { query = query.Range (codes "price") low low_open high high_open }

a_range_without_an_end_is_refused : refusal_of indices (between None false None false) ≡ Some (error.WrongKind (codes "source.query"))
unfolding refusal_by fields_of type_of is_index_name
a_range_without_an_end_is_refused = simp (types_range, nesting_range, fields_range) refl

-- of an end that is not there it is not asked whether it is open
an_open_end_that_is_not_there_passes : passes indices (between None true (Some (value.Int (pos 5))) false) ≡ true
unfolding refusal_by fields_of type_of is_index_name
an_open_end_that_is_not_there_passes = simp (types_range, nesting_range, fields_range) refl

-- of an absent field and a field of two types the absent one is told
absent_fields_come_first : refusal_of indices (batch (codes "orders" ∷ codes "returns" ∷ []) (Pivot (record by_customer { field = codes "town" } ∷ []) (total ∷ []))) ≡ Some (error.NoSuchField (codes "town"))
unfolding refusal_by fields_of type_of is_index_name
absent_fields_come_first = simp (types_all, nesting_all, fields_all) refl

types_of_sources_differ : refusal_of indices (batch (codes "orders" ∷ codes "returns" ∷ []) (Pivot (by_customer ∷ []) (total ∷ []))) ≡ Some (error.FieldTypes (codes "price"))
unfolding refusal_by fields_of type_of is_index_name
types_of_sources_differ = simp (types_all, nesting_all, fields_all) refl

-- every source must have the sync field
sync_field_is_everywhere : refusal_of indices (record (batch (codes "orders" ∷ codes "returns" ∷ []) (Latest (codes "reason" ∷ []) (codes "ts"))) {
  sync = Some (record { field = codes "customer"; delay_ms = pos 60000 });
}) ≡ Some (error.NoSuchField (codes "customer"))
unfolding refusal_by fields_of type_of is_index_name
sync_field_is_everywhere = simp (types_all, nesting_all, fields_all) refl

-- a pivot's retention looks at a column
retention_of_a_column : passes indices (record (batch (codes "orders" ∷ []) (Pivot (by_customer ∷ []) (record { name = codes "last"; field = codes "ts"; kind = Max } ∷ []))) {
  retention = Some (record { field = codes "last"; max_age_ms = pos 0 });
}) ≡ true
unfolding refusal_by fields_of type_of is_index_name
retention_of_a_column = simp (types_all, nesting_all, fields_all) refl

retention_of_a_number : refusal_of indices (record (batch (codes "orders" ∷ []) (Pivot (by_customer ∷ []) (total ∷ []))) {
  retention = Some (record { field = codes "total"; max_age_ms = pos 0 });
}) ≡ Some (error.NotADate (codes "total"))
unfolding refusal_by fields_of type_of is_index_name
retention_of_a_number = simp (types_all, nesting_all, fields_all) refl

-- a name of a group that an aggregation has too comes before what is wrong with fields
names_come_before_fields : refusal_of indices (batch (codes "orders" ∷ []) (Pivot (record by_customer { name = codes "total"; field = codes "town" } ∷ []) (total ∷ []))) ≡ Some (error.TwiceName (codes "total"))
unfolding refusal_by fields_of type_of is_index_name
names_come_before_fields = simp (types_all, nesting_all) refl

-- what is no span is told before what is out of range
no_span_is_no_frequency : refusal_of indices (record (batch (codes "orders" ∷ []) (Pivot (by_customer ∷ []) [])) { frequency_ms = neg_ℤ (pos 1); page_size = 0 }) ≡ Some (error.BadSpan (codes "frequency"))
unfolding refusal_by fields_of type_of is_index_name
no_span_is_no_frequency = simp (types_all, nesting_all, fields_all) refl

a_page_of_nine : refusal_of indices (record (batch (codes "orders" ∷ []) (Pivot (by_customer ∷ []) [])) { frequency_ms = pos 999; page_size = 9 }) ≡ Some (error.PageSizeRange (codes "max_page_search_size"))
unfolding refusal_by fields_of type_of is_index_name
a_page_of_nine = simp (types_all, nesting_all, fields_all) refl
