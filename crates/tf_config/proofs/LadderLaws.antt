-- The first refusal of several lists of kinds.
use Rattle.std.proofs.Common.{◌≡◌, Bool, true, false, List, [], ◌∷◌, ◌++◌, Option, Some, None, Result, Ok, Err, refl, sym, ap, subst, ◌∙◌}
use Rattle.std.specs.Prelude.{IsErr, IsErrAnd}
use Rattle.std.specs.Option.{option_map, option_or}
use Rattle.tf_mapping.specs.Least.{least_text}
use Rattle.tf_config.specs.declared.error.ConfigError.{ConfigError}
use Rattle.tf_config.specs.declared.error.ConfigError.TheVariants as error
use Rattle.tf_config.specs.Refusals.{Faults, first_refusal, Refuses, Answers}

or_assoc : (a b c : Option ConfigError) → option_or a (option_or b c) ≡ option_or (option_or a b) c
or_assoc None b c = refl
or_assoc (Some e) b c = refl

pub first_of_both : (kinds later : List Faults) → first_refusal (kinds ++ later) ≡ option_or (first_refusal kinds) (first_refusal later)
first_of_both [] later = refl
first_of_both (faults ∷ kinds) later =
    ap (option_or (option_map faults.0 (least_text faults.1))) (first_of_both kinds later)
    ∙ or_assoc (option_map faults.0 (least_text faults.1)) (first_refusal kinds) (first_refusal later)

pub ruleset ladder = (first_of_both)

pub refused_by : (a b : Option ConfigError) (e : ConfigError) → Refuses a e → Refuses (option_or a b) e
refused_by a b error.Memory h = tt
refused_by a b e h = ap (λ o. option_or o b) h

-- a refusal of the first kinds is the first one
pub refused : {A : Type 0} (kinds later : List Faults) (e : ConfigError) (r : Result A ConfigError) → Refuses (first_refusal kinds) e → IsErr r × IsErrAnd r (λ other. other ≡ e)
    → Answers (first_refusal (kinds ++ later)) r
refused kinds later e (Ok a) h is = absurd (let no : ◌≡◌ {A = Bool} false true = is.0 in cc)
refused kinds later e (Err other) h is =
    subst (λ o. Refuses o other) (sym (first_of_both kinds later)) (refused_by (first_refusal kinds) (first_refusal later) other (subst (Refuses (first_refusal kinds)) (sym is.1) h))

-- where the first kinds have no refusal, the later ones tell it
pub passed : {A : Type 0} (kinds later : List Faults) (r : Result A ConfigError) → first_refusal kinds ≡ None → Answers (first_refusal later) r → Answers (first_refusal (kinds ++ later)) r
passed {A} kinds later r none h =
    subst (λ o. Answers {A = A} o r) (sym (first_of_both kinds later)) (subst (λ o. Answers {A = A} (option_or o (first_refusal later)) r) (sym none) h)
