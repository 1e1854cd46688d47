-- What a configuration that is refused tells of its reading.
use Rattle.std.proofs.Common.{◌≡◌, Option, Some, None, sym}
use Rattle.std.specs.Prelude.{Result, Err}
use Rattle.tf_model.specs.declared.config.Config.{Config}
use Rattle.tf_config.specs.declared.error.ConfigError.{ConfigError}
use Rattle.tf_config.specs.declared.error.ConfigError.TheVariants as error
use Rattle.tf_config.specs.Reading.{Reads}
use Rattle.tf_reply.specs.declared.faults.Refusal.{Refusal}
use Rattle.tf_reply.specs.Refusals.{config_refusal}

-- an error that has a refusal is what was wanted
pub refused_reading : (wanted : Result Config ConfigError) (e : ConfigError) (r : Refusal) → Reads wanted (Err e) → config_refusal e ≡ Some r → wanted ≡ Err e
refused_reading wanted error.Memory r reads is = absurd (let z : ◌≡◌ {A = Option Refusal} None (Some r) = is in cc)
refused_reading wanted e r reads is = sym reads
