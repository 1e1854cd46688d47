use Rattle.std.proofs.Common.{◌≡◌, ◌<◌, ◌++◌, List, ℕ, None, Some, Err, length, sym, ◌∙◌, ap, subst, rules}
use mathlib.Core.Logic.{∥∥₁_map}
use Rattle.tf_model.specs.declared.entry.Entry.{Entry}
use Rattle.tf_event.specs.Entries.{spelled_entries}
use Rattle.tf_event.specs.declared.grammar.Grammar.TheVariants.{First}
use Rattle.tf_store.specs.Histories.{Spells}
use Rattle.tf_store.specs.Standing.{IsKnown}
use Rattle.tf_journal.specs.Answers.{broken_after}
use Rattle.tf_journal.specs.Standing.{broken_at}
use Rattle.tf_journal.specs.declared.error.JournalError.{JournalError}
use Rattle.tf_store.proofs.Encoding.{body_has_byte}
use Rattle.tf_store.proofs.Committing.{leaves_history, stands_more, grows_by, known_longer, known_failed}
use Rattle.tf_store.proofs.state.Store.commit.Goals as goal

pub append-requires : goal.append-requires
append-requires g c = subst (λ (l : List ℕ). 0 < length l) (sym (c.in_ok-frame.ensures ∙ ap (spelled_entries First) c.in_ok-ready.ensures.entries)) (body_has_byte c.args.entries c.requires.body)

pub invariant_of-self-in-Ok : goal.invariant_of-self-in-Ok
invariant_of-self-in-Ok g c =
    let m = g.D.Disk.meaning in
    let old = c.args.self.now in
    let new = c.append.new.self in
    let body = c.in_ok-frame.frame in
    let spells : Spells body c.args.entries = record { has_spelling = c.requires.body; spelling = c.in_ok-frame.ensures ∙ ap (spelled_entries First) c.in_ok-ready.ensures.entries } in
    let unbroken : old.broken ≡ None = search rules in
    let sound : broken_at old.journal ≡ None = sym old.breaks ∙ unbroken in
    let grown : c.apply.new.self.history ≡ old.core.history ++ c.args.entries = c.apply.ensures.history ∙ (λ i. c.in_ok-ready.ensures.history i ++ c.in_ok-ready.ensures.entries i) in record {
      breaks = old.breaks ∙ sym c.in-Ok.ensures.broken;
      known = ∥∥₁_map old.known (λ known. subst (λ (l : List Entry). IsKnown m old.opened_with.value l old.failed.value new) (sym grown)
          (known_longer m old.core.history c.args.entries body old.journal new spells c.requires.taken sound old.opened_with.value old.failed.value c.append.ensures.opened c.append.ensures.any_moment known c.in-Ok.ensures.broken c.in-Ok.ensures.frames));
    }

pub returns-in-Ok-clause-stands : goal.returns-in-Ok-clause-stands
returns-in-Ok-clause-stands g c stands =
    let unbroken : c.args.self.now.broken ≡ None = search rules in
    let sound : broken_at c.args.self.now.journal ≡ None = sym c.args.self.now.breaks ∙ unbroken in
    let spells : Spells c.in_ok-frame.frame c.args.entries = record { has_spelling = c.requires.body; spelling = c.in_ok-frame.ensures ∙ ap (spelled_entries First) c.in_ok-ready.ensures.entries } in
    stands_more g.D.Disk.meaning c.args.self.now.core.history c.args.entries c.in_ok-frame.frame c.args.self.now.journal c.append.new.self spells c.requires.taken sound c.in-Ok.ensures.frames stands

pub returns-in-Ok-clause-any_moment : goal.returns-in-Ok-clause-any_moment
returns-in-Ok-clause-any_moment g c stands =
    let unbroken : c.args.self.now.broken ≡ None = search rules in
    let sound : broken_at c.args.self.now.journal ≡ None = sym c.args.self.now.breaks ∙ unbroken in
    let spells : Spells c.in_ok-frame.frame c.args.entries = record { has_spelling = c.requires.body; spelling = c.in_ok-frame.ensures ∙ ap (spelled_entries First) c.in_ok-ready.ensures.entries } in
    leaves_history g.D.Disk.meaning c.args.self.now.core.history c.args.entries c.in_ok-frame.frame c.args.self.now.journal c.append.new.self spells c.requires.taken sound c.append.ensures.any_moment stands

pub invariant_of-self-in-Err-DiskFault : goal.invariant_of-self-in-Err-DiskFault
invariant_of-self-in-Err-DiskFault g c =
    let m = g.D.Disk.meaning in
    let old = c.args.self.now in
    let new = c.append.new.self in
    let body = c.in_ok-frame.frame in
    let spells : Spells body c.args.entries = record { has_spelling = c.requires.body; spelling = c.in_ok-frame.ensures ∙ ap (spelled_entries First) c.in_ok-ready.ensures.entries } in
    let unbroken : old.broken ≡ None = search rules in
    let sound : broken_at old.journal ≡ None = sym old.breaks ∙ unbroken in
    let broke : broken_at new ≡ Some c.in-Err-DiskFault.count = c.in-Err-DiskFault.ensures.broken ∙ ap (λ (e : JournalError). broken_after (broken_at old.journal) (Err e)) c.in-Err-DiskFault.field-0-is in record {
      breaks = search rules;
      known = ∥∥₁_map old.known (λ known. subst (λ (p : List Entry × List Entry). IsKnown m old.opened_with.value p.0 p.1 new) (λ i. (sym c.in_ok-ready.ensures.history i, sym c.of-asked.ensures i))
          (known_failed m old.core.history c.args.entries body old.journal new spells c.requires.taken sound old.opened_with.value old.failed.value c.append.ensures.opened c.append.ensures.any_moment known c.in-Err-DiskFault.count broke g.met.D.Disk.counts_now));
    }

pub returns-in-Err-DiskFault-clause-any_moment : goal.returns-in-Err-DiskFault-clause-any_moment
returns-in-Err-DiskFault-clause-any_moment g c stands =
    let unbroken : c.args.self.now.broken ≡ None = search rules in
    let sound : broken_at c.args.self.now.journal ≡ None = sym c.args.self.now.breaks ∙ unbroken in
    let spells : Spells c.in_ok-frame.frame c.args.entries = record { has_spelling = c.requires.body; spelling = c.in_ok-frame.ensures ∙ ap (spelled_entries First) c.in_ok-ready.ensures.entries } in
    leaves_history g.D.Disk.meaning c.args.self.now.core.history c.args.entries c.in_ok-frame.frame c.args.self.now.journal c.append.new.self spells c.requires.taken sound c.append.ensures.any_moment stands

pub returns-in-Err-Full-clause-any_moment : goal.returns-in-Err-Full-clause-any_moment
returns-in-Err-Full-clause-any_moment g c stands =
    let unbroken : c.args.self.now.broken ≡ None = search rules in
    let sound : broken_at c.args.self.now.journal ≡ None = sym c.args.self.now.breaks ∙ unbroken in
    let spells : Spells c.in_ok-frame.frame c.args.entries = record { has_spelling = c.requires.body; spelling = c.in_ok-frame.ensures ∙ ap (spelled_entries First) c.in_ok-ready.ensures.entries } in
    leaves_history g.D.Disk.meaning c.args.self.now.core.history c.args.entries c.in_ok-frame.frame c.args.self.now.journal c.append.new.self spells c.requires.taken sound c.append.ensures.any_moment stands

pub returns-in-Ok-clause-len : goal.returns-in-Ok-clause-len
returns-in-Ok-clause-len g c =
    let unbroken : c.args.self.now.broken ≡ None = search rules in
    let sound : broken_at c.args.self.now.journal ≡ None = sym c.args.self.now.breaks ∙ unbroken in
    let spells : Spells c.in_ok-frame.frame c.args.entries = record { has_spelling = c.requires.body; spelling = c.in_ok-frame.ensures ∙ ap (spelled_entries First) c.in_ok-ready.ensures.entries } in
    grows_by g.D.Disk.meaning c.args.self.now.core.history c.args.entries c.in_ok-frame.frame c.args.self.now.journal c.append.new.self spells c.requires.taken sound c.args.self.now.opened_with.value c.args.self.now.failed.value c.in-Ok.ensures.frames c.args.self.now.known
