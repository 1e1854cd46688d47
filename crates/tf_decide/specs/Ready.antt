-- What is known of what a command asks for, beside what it is.
use Rattle.std.specs.Prelude.{◌≡◌, List, [], ◌∷◌, map, Result, Ok, Err}
use Rattle.std.specs.List.{AllByRecursion}
use Rattle.tf_model.specs.declared.entry.Entry.{Entry}
use Rattle.tf_model.specs.declared.entry.Kind.{Kind}
use Rattle.tf_model.specs.declared.entry.Kind.TheVariants as kind
use Rattle.tf_event.specs.Entries.{FitsEntry}
use Rattle.tf_event.specs.declared.grammar.Grammar.TheVariants.{First}
use Rattle.tf_reply.specs.declared.faults.Refusal.{Refusal}
use Rattle.tf_decide.specs.declared.asked.Answer.{Answer}
use Rattle.tf_decide.specs.declared.asked.Answer.TheVariants as answer
use Rattle.tf_decide.specs.declared.asked.Asked.{Asked}

abbrev pub kinds : List Entry → List Kind
kinds entries = map (λ (e : Entry). e.kind) entries

-- where a start is told, a Start is the one entry; where a step is told or rows are shown, there is none
abbrev pub Follows : List Entry → Answer → Type 0
Follows entries (answer.Started id) = kinds entries ≡ kind.Start id ∷ []
Follows entries (answer.Stepped id) = entries ≡ []
Follows entries (answer.Shown search) = entries ≡ []
Follows entries _ = Unit {0}

-- each of the entries has a spelling
pub record IsReady (past : List Entry) (a : Asked) : Type 0 where
  pub follows : Follows a.entries a.answer
  pub spelled : AllByRecursion (FitsEntry First) a.entries

-- an accepted document has a spelling
abbrev pub IsReadyDocument : List Entry → Result Entry Refusal → Type 0
IsReadyDocument past (Ok e) = FitsEntry First e
IsReadyDocument past (Err r) = Unit {0}
