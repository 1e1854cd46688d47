-- The history in a file's bytes, or its least damaged frame.
--
-- The bytes are read as frames. The body of a frame is the spelling of one or more entries, each of which is taken after
-- the entries before it. A frame is damaged where its bytes are, where its body spells no entries, or where one of its
-- entries is not taken.
use Rattle.std.specs.Prelude.{◌≡◌, ◌⊎◌, ℕ, ◌+◌, List, [], ◌∷◌, ◌++◌, length}
use Rattle.tf_model.specs.declared.entry.Entry.{Entry}
use Rattle.tf_journal.specs.Frames.{Reading, reading, whole, damaged}
use Rattle.tf_event.specs.Entries.{IsBody, spelled_entries}
use Rattle.tf_event.specs.declared.grammar.Grammar.TheVariants.{First}
use Rattle.tf_core.specs.Legal.{AreTakenAfter, IsTakenHistory}

-- the body of a frame is the spelling of these entries, of which there is one at least
pub record Spells (body : List ℕ) (entries : List Entry) : Type 0 where
  pub has_spelling : IsBody First entries
  pub spelling : body ≡ spelled_entries First entries

-- Behind a history, the bodies spell entries that are taken one after another, and this is the history with them.
abbrev pub LeadsTo : List Entry → List (List ℕ) → List Entry → Type 0
LeadsTo before [] history = before ≡ history
LeadsTo before (body ∷ bodies) history = (entries : List Entry) × Spells body entries × AreTakenAfter before entries × LeadsTo (before ++ entries) bodies history

-- the entries of the bodies are this history
abbrev pub Holds : List (List ℕ) → List Entry → Type 0
Holds bodies history = LeadsTo [] bodies history

-- the body is damaged behind a history: it spells no entries that are taken one after another
abbrev pub IsDamagedAfter : List Entry → List ℕ → Type 0
IsDamagedAfter history body = (entries : List Entry) → Spells body entries → AreTakenAfter history entries → ⊥

-- The body of this frame is damaged behind those before it, which hold a history. Frames are counted from 1.
pub record HasDamagedBody (bodies : List (List ℕ)) (frame : ℕ) : Type 0 where
  pub before : List (List ℕ)
  pub body : List ℕ
  pub later : List (List ℕ)
  pub parts : bodies ≡ before ++ body ∷ later
  pub history : List Entry
  pub holds : Holds before history
  pub damage : IsDamagedAfter history body
  pub number : frame ≡ length before + 1

-- the bytes of this frame are damaged, and the frames before it hold a history
pub record HasDamagedBytes (bodies : List (List ℕ)) (broken frame : ℕ) : Type 0 where
  pub history : List Entry
  pub holds : Holds bodies history
  pub number : frame ≡ broken

-- what a file has: a history, or a least damaged frame
pub data Content : Type 0 where
  history : List Entry → Content
  damage : ℕ → Content

-- what frames have, as they are read
abbrev pub IsContent : Reading → Content → Type 0
IsContent (whole bodies) (history entries) = Holds bodies entries
IsContent (whole bodies) (damage frame) = HasDamagedBody bodies frame
IsContent (damaged broken bodies) (history entries) = ⊥
IsContent (damaged broken bodies) (damage frame) = HasDamagedBody bodies frame ⊎ HasDamagedBytes bodies broken frame

-- what the bytes of a file have
abbrev pub Has : List ℕ → Content → Type 0
Has bytes content = IsContent (reading bytes) content

-- the bytes of a file have this history
abbrev pub HasHistory : List ℕ → List Entry → Type 0
HasHistory bytes entries = Has bytes (history entries)

-- this is the least damaged frame of the bytes of a file
abbrev pub HasDamage : List ℕ → ℕ → Type 0
HasDamage bytes frame = Has bytes (damage frame)

-- the bytes have at most one history, at most one least damaged frame, and not both
abbrev pub ContentIsOne : Type 0
ContentIsOne = (bytes : List ℕ) (one other : Content) → Has bytes one → Has bytes other → one ≡ other

-- each entry of the history that bytes have was taken after those before it
abbrev pub HistoriesAreTaken : Type 0
HistoriesAreTaken = (bytes : List ℕ) (entries : List Entry) → HasHistory bytes entries → IsTakenHistory entries
