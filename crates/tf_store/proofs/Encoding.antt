-- The loop that spells entries, a turn at a time.
use Rattle.std.proofs.Common.{◌≡◌, inl, inr, ℕ, zero, suc, ◌+◌, ◌<◌, ◌≤◌, ◌==◌, if◌then◌else◌, List, [], ◌∷◌, ◌++◌, length, get_or, drop, refl, sym, ◌∙◌, ap, subst, append-nil, arith, Option, Some, None}
use Rattle.std.proofs.lemmas.Bool.{cases_lt}
use Rattle.std.proofs.lemmas.List.{drop_all}
use Rattle.std.specs.List.{AllByRecursion}
use Rattle.tf_model.specs.declared.entry.Entry.{Entry}
use Rattle.tf_event.specs.Entries.{FitsEntry, spelled_entry, spelled_entries, IsBody, entries_in, body_in}
use Rattle.tf_event.specs.declared.grammar.Grammar.TheVariants.{First}
use Rattle.tf_event.proofs.Loops.{one_written}
use Rattle.tf_event.proofs.BodyLaws.{body_again}

pub one_more : (es : List Entry) (i : ℕ) (e : Entry) (out more total : List ℕ) → i < length es → e ≡ get_or es i e → more ≡ out ++ spelled_entry First e
    → out ++ spelled_entries First (drop i es) ≡ total → more ++ spelled_entries First (drop (i + 1) es) ≡ total
unfolding spelled_entries
one_more es i e out more total within is grows so_far = one_written (spelled_entry First) es i e out more total within is grows so_far

pub all_spelled : (es : List Entry) (i : ℕ) (out total : List ℕ) → length es ≤ i → out ++ spelled_entries First (drop i es) ≡ total → out ≡ total
unfolding spelled_entries
all_spelled es i out total over so_far =
    sym (append-nil out) ∙ ap (λ (l : List Entry). out ++ spelled_entries First l) (sym (drop_all i es over)) ∙ so_far

pub fits_at : (es : List Entry) (i : ℕ) (e : Entry) → i < length es → e ≡ get_or es i e → AllByRecursion (FitsEntry First) es → FitsEntry First e
fits_at [] i e within is fits = absurd (omega (arith, within))
fits_at (x ∷ es) zero e within is fits = subst (λ (y : Entry). FitsEntry First y) (sym is) fits.0
fits_at (x ∷ es) (suc i) e within is fits = fits_at es i e (omega (arith, within)) is fits.1

is_none : (n : ℕ) (o : Option (List Entry)) → n ≡ 0 → (if n == 0 then None else o) ≡ None
is_none n o is = subst (λ (k : ℕ). (if k == 0 then None else o) ≡ None) (sym is) refl

nothing_read : (bytes : List ℕ) → length bytes ≡ 0 → body_in First bytes ≡ None
unfolding body_in
nothing_read bytes none = is_none (length bytes) (entries_in First (length bytes) bytes) none

-- a body has a byte at least
pub body_has_byte : (es : List Entry) → IsBody First es → 0 < length (spelled_entries First es)
body_has_byte es is = elim (cases_lt 0 (length (spelled_entries First es))) [
  | inl some ↦ some
  | inr most ↦ absurd (let nothing : None ≡ Some es = sym (nothing_read (spelled_entries First es) (omega (arith, most))) ∙ body_again First es is in cc)
]
