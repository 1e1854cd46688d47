-- What is known of entries that are taken.
use Rattle.std.proofs.Common.{◌≡◌, ℕ, true, List, [], ◌∷◌, None, subst}
use Rattle.std.specs.Prelude.{is_none}
use Rattle.tf_model.specs.declared.config.Config.{Config}
use Rattle.tf_model.specs.declared.entry.Entry.{Entry}
use Rattle.tf_model.specs.declared.entry.Kind.TheVariants as kind
use Rattle.tf_history.specs.Catalogue.{catalogue}
use Rattle.tf_history.specs.Legality.{IsAllowed, IsLegal}
use Rattle.tf_history.specs.LegalEntries.{IsLegalPast}
use Rattle.tf_history.specs.Reading.{deed_of}
use Rattle.tf_history.proofs.EntriesLaw.{legal_entries_are_legal}
use Rattle.tf_model.specs.Scratch.{is_pivot}
use Rattle.tf_core.specs.Built.{is_built, is_built_config}
use Rattle.tf_core.specs.Legal.{IsTaken, IsTakenPast, read, reading}
use Rattle.tf_mapping.specs.Documents.{values_of}
use Rattle.tf_core.proofs.Truths.{both, none_of}

pub taken_is_legal : (past : List Entry) → IsTakenPast past → IsLegalPast reading past
taken_is_legal [] h = tt
taken_is_legal (e ∷ past) h = (taken_is_legal past h.0, h.1.legal)

-- a past of taken entries is legal, so the laws of checkpoints hold of it
pub read_is_legal : (past : List Entry) → IsTakenPast past → IsLegal (read past)
unfolding reading
read_is_legal past h = legal_entries_are_legal reading past (taken_is_legal past h)

pub is_allowed : (past : List Entry) (e : Entry) → IsTaken past e → IsAllowed e.at_ms (deed_of values_of (catalogue past) e.kind) (read past)
unfolding reading
is_allowed past e h = h.legal.allowed

-- what is built has no retention policy
pub is_forever : (past : List Entry) (e : Entry) (id : List ℕ) (c : Config) → IsTaken past e → e.kind ≡ kind.Put id c → c.retention ≡ None
is_forever past e id c h is =
    let built : is_built_config c ≡ true = subst (λ k. is_built k ≡ true) is h.built in
    none_of c.retention (both (is_pivot c.shape) (is_none c.retention) built).1
