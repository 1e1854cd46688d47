-- The names of members, and the paths of those that are absent.
use Rattle.std.specs.Prelude.{ℕ, List, map}
use Rattle.tf_mapping.specs.Scalars.{Place, path_in}
use Rattle.tf_config.specs.declared.forms.FormFault.TheVariants as fault
use Rattle.tf_config.specs.Forms.{Found}

abbrev pub names_of : {A : Type 0} → List (List ℕ × A) → List (List ℕ)
names_of members = map (λ m. m.0) members

abbrev pub missing_each : Place → List (List ℕ) → List Found
missing_each place names = map (λ name. (fault.Missing, path_in place name)) names
