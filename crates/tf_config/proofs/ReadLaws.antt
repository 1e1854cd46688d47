-- The parts of a reading put together.
use Rattle.std.proofs.Common.{◌≡◌, ℕ, Bool, true, false, List, [], ◌∷◌, Option, Some, None, Result, Ok, Err, refl, sym, ap, ap₂, subst, ◌∙◌}
use Rattle.std.specs.Prelude.{codes, IfOk, IsErr, IsErrAnd}
use Rattle.std.specs.List.{fold}
use Rattle.std.specs.Option.{option_map, option_or, option_to_list}
use Rattle.tf_model.specs.declared.config.Config.{Config}
use Rattle.tf_model.specs.declared.query.Mapping.{Mapping}
use Rattle.tf_model.specs.declared.query.Query.{Query}
use Rattle.tf_model.specs.declared.tree.Tree.{Tree}
use Rattle.tf_mapping.specs.Least.{lesser_text, least_text}
use Rattle.tf_config.specs.declared.error.ConfigError.{ConfigError}
use Rattle.tf_config.specs.declared.error.ConfigError.TheVariants as error
use Rattle.tf_config.specs.declared.forms.FormFault.TheVariants as fault
use Rattle.tf_config.specs.declared.forms.FormFaults.{FormFaults}
use Rattle.tf_config.specs.declared.query.QueryFaults.{QueryFaults}
use Rattle.tf_config.specs.Catalogue.{Indices, fields_of}
use Rattle.tf_config.specs.Checks.{told_if}
use Rattle.tf_config.specs.Drafts.{sources, drafted}
use Rattle.tf_config.specs.Forms.{Found, form_faults, paths, is_unknown_fault, is_missing_fault, is_wrong_kind_fault, noted, nothing_noted}
use Rattle.tf_config.specs.Reading.{query_by, query_tree, query_of, kept, query_faults, has_both_or_neither, faults_of_tree, refusal_with, unless, reading, Reads}
use Rattle.tf_config.specs.Refusals.{first_refusal, refusal_by, passes, Refuses}
use Rattle.tf_config.specs.Walked.{first_noted, IsRead, read_by}
use Rattle.tf_config.proofs.ClearLaws.{clear_by, clear_passes}
use Rattle.tf_config.proofs.LadderLaws.{refused_by}
use Rattle.tf_config.proofs.LeastLaws.{least_of_both}

-- ---- the walk notes the least path of each fault
unknown_noted : (start : FormFaults) (found : List Found) → (fold noted start found).unknown ≡ fold lesser_text start.unknown (paths is_unknown_fault found)
unknown_noted start [] = refl
unknown_noted start ((fault.Unknown, path) ∷ found) = unknown_noted (noted start (fault.Unknown, path)) found
unknown_noted start ((fault.Missing, path) ∷ found) = unknown_noted (noted start (fault.Missing, path)) found
unknown_noted start ((fault.WrongKind, path) ∷ found) = unknown_noted (noted start (fault.WrongKind, path)) found

missing_noted : (start : FormFaults) (found : List Found) → (fold noted start found).missing ≡ fold lesser_text start.missing (paths is_missing_fault found)
missing_noted start [] = refl
missing_noted start ((fault.Unknown, path) ∷ found) = missing_noted (noted start (fault.Unknown, path)) found
missing_noted start ((fault.Missing, path) ∷ found) = missing_noted (noted start (fault.Missing, path)) found
missing_noted start ((fault.WrongKind, path) ∷ found) = missing_noted (noted start (fault.WrongKind, path)) found

wrong_noted : (start : FormFaults) (found : List Found) → (fold noted start found).wrong_kind ≡ fold lesser_text start.wrong_kind (paths is_wrong_kind_fault found)
wrong_noted start [] = refl
wrong_noted start ((fault.Unknown, path) ∷ found) = wrong_noted (noted start (fault.Unknown, path)) found
wrong_noted start ((fault.Missing, path) ∷ found) = wrong_noted (noted start (fault.Missing, path)) found
wrong_noted start ((fault.WrongKind, path) ∷ found) = wrong_noted (noted start (fault.WrongKind, path)) found

or_none : (o : Option ConfigError) → o ≡ option_or o None
or_none None = refl
or_none (Some e) = refl

pub walked : (need_dest : Bool) (t : Tree) (query : QueryFaults) → first_noted (fold noted nothing_noted (form_faults need_dest t)) query t ≡ first_refusal (faults_of_tree need_dest t query)
walked need_dest t query =
    let found = form_faults need_dest t in
    let shapes = option_map error.BothOrNeither (least_text (told_if (has_both_or_neither t) (codes "pivot"))) in
    let unknown = ap (λ o. fold lesser_text o (option_to_list query.unknown)) (unknown_noted nothing_noted found) ∙ sym (least_of_both None (paths is_unknown_fault found) (option_to_list query.unknown)) in
    let wrong = ap (λ o. fold lesser_text o (option_to_list query.wrong_kind)) (wrong_noted nothing_noted found) ∙ sym (least_of_both None (paths is_wrong_kind_fault found) (option_to_list query.wrong_kind)) in
    λ i. option_or (option_map error.UnknownSetting (unknown i)) (option_or (option_map error.Missing (missing_noted nothing_noted found i)) (option_or (option_map error.WrongKind (wrong i)) (or_none shapes i)))

pub ruleset walks = (walked)

-- ---- the steps of a reading
refused_by_one : (o : Option ConfigError) (c : Config) (e : ConfigError) → Refuses o e → Reads (unless o c) (Err e)
refused_by_one o c error.Memory h = tt
refused_by_one o c e h = sym (ap (λ x. unless x c) h)

refused_reads : (o : Option ConfigError) (c : Config) (e : ConfigError) (r : Result Config ConfigError) → Refuses o e → IsErr r × IsErrAnd r (λ other. other ≡ e) → Reads (unless o c) r
refused_reads o c e (Ok d) h is = absurd (let no : ◌≡◌ {A = Bool} false true = is.0 in cc)
refused_reads o c e (Err other) h is = refused_by_one o c other (subst (Refuses o) (sym is.1) h)

-- a refusal of the form is the first one
pub form_refused : (a b : Option ConfigError) (c : Config) (e : ConfigError) (r : Result Config ConfigError) → Refuses a e → IsErr r × IsErrAnd r (λ other. other ≡ e) → Reads (unless (option_or a b) c) r
form_refused a b c e r h is = refused_reads (option_or a b) c e r (refused_by a b e h) is

-- and else that of the configuration
pub config_refused : (a b : Option ConfigError) (c : Config) (e : ConfigError) (r : Result Config ConfigError) → a ≡ None → Refuses b e → IsErr r × IsErrAnd r (λ other. other ≡ e) → Reads (unless (option_or a b) c) r
config_refused a b c e r none h is = subst (λ o. Reads (unless (option_or o b) c) r) (sym none) (refused_reads b c e r h is)

-- and with neither the configuration is read
pub config_read : (a b : Option ConfigError) (c d : Config) → a ≡ None → b ≡ None → d ≡ c → Reads (unless (option_or a b) c) (Ok d)
config_read a b c d no_form no_config same = ap Ok same ∙ sym (ap (λ o. unless (option_or o b) c) no_form ∙ ap (λ o. unless o c) no_config)

-- what is read with the query that the tree has, by the fields of its sources
pub whole : (indices : Indices) (need_dest : Bool) (t : Tree) (names : List (List ℕ)) (fields : Mapping) (tree : Option Tree) (query : Query) (faults : QueryFaults) (r : Result Config ConfigError)
    → names ≡ sources t → fields ≡ fields_of indices names → tree ≡ query_tree t → IsRead (query_by fields tree) query faults → Reads (read_by indices need_dest t query faults) r
    → Reads (reading indices need_dest t) r
unfolding reading
whole indices need_dest t names fields tree query faults r named typed stands is h =
    let same : query_by fields tree ≡ query_of indices t = ap₂ query_by (typed ∙ ap (fields_of indices) named) stands in
    let kept_is : query ≡ kept (query_of indices t) = is.0 ∙ ap kept same in
    let faults_are : faults ≡ query_faults (query_of indices t) = is.1 ∙ ap query_faults same in
    subst (λ q. Reads (read_by indices need_dest t q (query_faults (query_of indices t))) r) kept_is (subst (λ f. Reads (read_by indices need_dest t query f) r) faults_are h)

-- ---- a configuration that is read passes
or_none_of : (a b : Option ConfigError) → option_or a b ≡ None → b ≡ None
or_none_of None b none = none
or_none_of (Some e) b none = absurd (cc)

pub taken : (o : Option ConfigError) (c d : Config) → Ok d ≡ unless o c → (o ≡ None) × (d ≡ c)
taken None c d is = (refl, cc)
taken (Some e) c d is = absurd (cc)

-- a configuration that is read is the one that the tree stands for, with the query that is kept
pub read_is : (indices : Indices) (t : Tree) (d : Config) → Ok d ≡ reading indices true t → d ≡ drafted (kept (query_of indices t)) t
unfolding reading
read_is indices t d is = (taken (refusal_with indices true t (query_of indices t)) (drafted (kept (query_of indices t)) t) d is).1

pub read_passes : (indices : Indices) (t : Tree) (d : Config) → Ok d ≡ reading indices true t → passes indices d ≡ true
unfolding reading
read_passes indices t d is =
    let query = query_of indices t in
    let c = drafted (kept query) t in
    let parts = taken (refusal_with indices true t query) c d is in
    let none = or_none_of (first_refusal (faults_of_tree true t (query_faults query))) (refusal_by indices true (query_faults query) c) parts.0 in
    subst (λ x. passes indices x ≡ true) (sym parts.1) (clear_passes indices c (clear_by indices true (query_faults query) c none))

passing_by : (indices : Indices) (t : Tree) (r : Result Config ConfigError) → Reads (reading indices true t) r → IfOk r (λ c. passes indices c ≡ true)
passing_by indices t (Ok c) h = read_passes indices t c h
passing_by indices t (Err e) h = tt

pub passing : (indices : Indices) (need_dest : Bool) (t : Tree) (r : Result Config ConfigError) → Reads (reading indices need_dest t) r → need_dest ≡ true → IfOk r (λ c. passes indices c ≡ true)
passing indices need_dest t r h is = passing_by indices t r (subst (λ b. Reads (reading indices b t) r) is h)
