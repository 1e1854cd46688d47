-- The laws of late documents and of aligned keys, as indices really read their documents.
use Rattle.std.proofs.Common.{◌≡◌, ℤ, true, false, ◌&&◌, Option, Some, None, sym, ap, subst, ◌∙◌}
use Rattle.std.specs.List.{list_all}
use Rattle.tf_model.specs.declared.value.Value.{Value}
use Rattle.tf_model.specs.declared.value.Value.TheVariants as value
use Rattle.tf_model.specs.Values.{value_at}
use Rattle.tf_mapping.specs.Documents.{reads, values_of}
use Rattle.tf_mapping.specs.Written.{is_object, is_moment, has_moment, is_written}
use Rattle.tf_history.specs.ConfiguredLaws.{is_not_early, ReadsStamps}
use Rattle.tf_history.specs.Lives.{written}
use Rattle.tf_history.specs.Meaning.{Meaning}
use Rattle.tf_history.specs.Transforms.{meaning_of}
use Rattle.tf_history.proofs.EntriesLaw.{legal_entries_are_legal, same_meaning}
use Rattle.tf_history.proofs.OnceLaw.{aligned_keys_appear_once}
use Rattle.tf_history.proofs.StampedLaw.{stamped_sources_are_never_late}
use Rattle.tf_core.specs.Laws.{StampedDocumentsAreNeverLate, AlignedKeysAreApart}
use Rattle.tf_core.specs.Legal.{read, reading}
use Rattle.tf_core.proofs.DatesRead.{none_is_early}
use Rattle.tf_core.proofs.InRange.{delay_in_range, found_in_range, step_in_range}
use Rattle.tf_core.proofs.Truths.{both, same_int}

moment_is : (ms : ℤ) (found : Option Value) → is_moment ms found ≡ true → found ≡ Some (value.Date ms)
moment_is ms None e = absurd (let z : false ≡ true = e in cc)
moment_is ms (Some value.Null) e = absurd (let z : false ≡ true = e in cc)
moment_is ms (Some (value.Bool b)) e = absurd (let z : false ≡ true = e in cc)
moment_is ms (Some (value.Int n)) e = absurd (let z : false ≡ true = e in cc)
moment_is ms (Some (value.Date n)) e = ap (λ m. Some (value.Date m)) (same_int n ms e)
moment_is ms (Some (value.Str text)) e = absurd (let z : false ≡ true = e in cc)

-- a tree that an index keeps has the moment of its write as the stamp's value
reads_stamps : ReadsStamps reading
unfolding reading is_written
reads_stamps s moment tree field kept stamp =
    let values = values_of s.mapping s.stamp tree in
    let parts = both (is_object tree) (reads s.mapping None tree && has_moment s.stamp moment values) kept in
    let there = (both (reads s.mapping None tree) (has_moment s.stamp moment values) parts.1).1 in
    moment_is moment (value_at values field) (ap (λ o. has_moment o moment values) (sym stamp) ∙ there)

pub stamped_documents_are_never_late : StampedDocumentsAreNeverLate
unfolding reading
stamped_documents_are_never_late past t p l sync legal put is synced stamped =
    stamped_sources_are_never_late reading past t p l sync reads_stamps legal put is synced (delay_in_range p.config sync (found_in_range past t p legal put) synced) stamped

pub aligned_keys_are_apart : AlignedKeysAreApart
unfolding reading
aligned_keys_are_apart past t p l step legal put is aligned =
    let same : meaning_of p ≡ l.meaning = same_meaning values_of past t p l put is in
    aligned_keys_appear_once values_of past t p l step (legal_entries_are_legal reading past legal) put is aligned
    (step_in_range p.config step (found_in_range past t p legal put) aligned)
    (subst (λ (m : Meaning). list_all (λ d. is_not_early (m.sync d)) (written m (read past)) ≡ true) same (none_is_early past p.sources p.config))
