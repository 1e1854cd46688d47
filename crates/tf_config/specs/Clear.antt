-- A configuration at which nothing is at fault.
use Rattle.std.specs.Prelude.{◌≡◌, Bool, []}
use Rattle.tf_model.specs.declared.config.Config.{Config}
use Rattle.tf_config.specs.Catalogue.{Indices, mappings_of}
use Rattle.tf_config.specs.Checks.{empty_lists, unfit_query, too_long, too_deep, ill_named, absent_sources, twice_named, unmapped_fields, mixed_fields, undated_fields, unnumbered_fields, bad_intervals, bad_spans, bad_page_size, bad_frequency}

pub record IsClear (indices : Indices) (need_dest : Bool) (c : Config) : Type 0 where
  pub empty_lists : empty_lists c ≡ []
  pub unfit_query : unfit_query indices c ≡ []
  pub too_long : too_long c ≡ []
  pub too_deep : too_deep c ≡ []
  pub ill_named : ill_named need_dest c ≡ []
  pub absent_sources : absent_sources indices c ≡ []
  pub twice_named : twice_named c ≡ []
  pub unmapped_fields : unmapped_fields (mappings_of indices c.sources) c ≡ []
  pub mixed_fields : mixed_fields (mappings_of indices c.sources) c ≡ []
  pub undated_fields : undated_fields (mappings_of indices c.sources) c ≡ []
  pub unnumbered_fields : unnumbered_fields (mappings_of indices c.sources) c ≡ []
  pub bad_intervals : bad_intervals c ≡ []
  pub bad_spans : bad_spans c ≡ []
  pub bad_page_size : bad_page_size c ≡ []
  pub bad_frequency : bad_frequency c ≡ []
