-- Files and what they have.
use Rattle.std.proofs.Common.{◌≡◌, inr, ℕ, ◌<◌, IsAscii, false, List, [], ◌∷◌, ◌++◌, refl, sym, ◌∙◌, ap, arith, Some, None, zero, suc}
use Rattle.std.specs.Prelude.{pos}
use Rattle.std.proofs.lemmas.Str.{IsUtf8-from_ascii}
use Rattle.std.specs.List.Sorted.{IsStrictlySortedBy}
use Rattle.tf_model.specs.declared.entry.Entry.{Entry}
use Rattle.tf_model.specs.declared.entry.Kind.TheVariants as kind
use Rattle.tf_model.specs.declared.query.FieldType.TheVariants.{Keyword, Long}
use Rattle.tf_model.specs.Names.{is_index_name, is_field_path}
use Rattle.tf_journal.specs.Sizes.{size_of}
use Rattle.tf_journal.specs.Frames.{magic, found_within}
use Rattle.tf_event.specs.Spelling.{FitsText, spelled_number, spelled_signed, spelled_truth, spelled_piece, spelled_option}
use Rattle.tf_event.specs.Entries.{FitsEntry, spelled_kind, spelled_entry, spelled_entries, entry_at, entries_in, body_in}
use Rattle.tf_event.specs.Reading.{number_at, signed_at}
use Rattle.tf_event.specs.Values.{spelled_type, spelled_mapping}
use Rattle.tf_event.specs.declared.grammar.Grammar.TheVariants.{First}
use Rattle.tf_event.proofs.BodyLaws.{body_again}
use Rattle.tf_core.specs.Legal.{IsTaken, reading}
use Rattle.tf_store.specs.Histories.{Spells, HasHistory, HasDamage}

-- no bytes
nothing : HasHistory [] []
nothing = refl

-- no beginning of a file
foreign : HasDamage (0 ∷ 0 ∷ 0 ∷ 0 ∷ 0 ∷ 0 ∷ 0 ∷ 0 ∷ 0 ∷ 0 ∷ []) 0
unfolding found_within size_of
foreign = inr (record { history = []; holds = refl; number = refl })

-- three bytes are no entry
abbrev abc : List ℕ
abc = 97 ∷ 98 ∷ 99 ∷ []

unread : body_in First abc ≡ None
unfolding body_in entries_in entry_at signed_at number_at
unread = refl

-- a frame whose body spells no entries
unspelled : HasDamage (magic ++ 1 ∷ 3 ∷ 0 ∷ 0 ∷ 0 ∷ 0 ∷ 0 ∷ 0 ∷ 0 ∷ 97 ∷ 98 ∷ 99 ∷ 0 ∷ []) 1
unfolding found_within size_of
unspelled = record {
  before = [];
  body = abc;
  later = [];
  parts = refl;
  history = [];
  holds = refl;
  damage = λ entries spells taken. no_entries entries spells;
  number = refl;
}
  where
    no_entries : (entries : List Entry) → Spells abc entries → ⊥
    no_entries entries spells = let read : None ≡ Some entries = sym unread ∙ ap (body_in First) spells.spelling ∙ body_again First entries spells.has_spelling in cc

-- an index `s` of one shard with a keyword `k` and a long `v`, at 1000 by actor 0
abbrev index : Entry
index = record {
  at_ms = pos 1000;
  actor = 0;
  kind = kind.Index (115 ∷ []) 1 (record { fields = (107 ∷ [], Keyword) ∷ (118 ∷ [], Long) ∷ [] }) None false;
}

abbrev index_body : List ℕ
index_body =
    232 ∷ 3 ∷ 0 ∷ 0 ∷ 0 ∷ 0 ∷ 0 ∷ 0 ∷ 0 ∷ 1 ∷ 1 ∷ 0 ∷ 0 ∷ 0 ∷ 115 ∷ 1 ∷ 0 ∷ 0 ∷ 0 ∷ 2 ∷ 0 ∷ 0 ∷ 0 ∷ 1 ∷ 0 ∷ 0 ∷ 0 ∷ 107 ∷ 0 ∷ 1 ∷ 0 ∷ 0 ∷ 0 ∷ 118 ∷ 1 ∷ 0 ∷ 0 ∷ []

ascii : (byte : ℕ) → byte < 128 → IsAscii (byte ∷ [])
ascii byte low zero = low
ascii byte low (suc i) = omega arith

letter : (byte : ℕ) → byte < 128 → FitsText (byte ∷ [])
letter byte low = (omega arith, IsUtf8-from_ascii (byte ∷ []) (ascii byte low))

index_fits : FitsEntry First index
index_fits = record {
  at_ms = record { sfits = omega arith };
  actor = omega arith;
  kind = (letter 115 (omega arith), omega arith, ((omega arith, ((letter 107 (omega arith), tt), ((letter 118 (omega arith), tt), tt))), refl), tt);
}

index_spelled : Spells index_body (index ∷ [])
unfolding spelled_entries spelled_entry spelled_kind spelled_signed spelled_number spelled_piece spelled_mapping spelled_type spelled_option spelled_truth
index_spelled = record { has_spelling = record { some = omega arith; each = (index_fits, tt) }; spelling = refl }

-- it may be the first entry
index_taken : IsTaken [] index
unfolding reading is_index_name is_field_path IsStrictlySortedBy
index_taken = record {
  legal = record {
    moment = (record { le = tt }, record { le = tt });
    later = tt;
    actor = omega arith;
    fits = record {
      well_formed = refl;
      free = refl;
      few = omega arith;
      shards = (omega arith, omega arith);
      fields = omega arith;
      field_names = refl;
      ascending = ((refl, tt), (tt, tt));
      stamp = tt;
      slow = refl;
    };
    allowed = tt;
  };
  built = refl;
}

-- a file with this entry
one_entry : HasHistory (magic ++ 1 ∷ 37 ∷ 0 ∷ 0 ∷ 0 ∷ 0 ∷ 0 ∷ 0 ∷ 0 ∷ (index_body ++ 0 ∷ [])) (index ∷ [])
unfolding found_within size_of
one_entry = (index ∷ [], index_spelled, (index_taken, tt), refl)
