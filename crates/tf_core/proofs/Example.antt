-- A small history: an index and two documents, which are taken.
use Rattle.std.proofs.Common.{◌≡◌, ℕ, ◌%◌, ◌&&◌, List, arith, refl, sym, ap, [], ◌∷◌, None, Some, true, false}
use Rattle.std.specs.Prelude.{ℤ, pos, codes, is_some}
use Rattle.std.proofs.lemmas.Int.{ints}
use Rattle.tf_model.specs.Names.{is_index_name}
use Rattle.tf_model.specs.Trees.{members_in, members_level}
use Rattle.tf_model.specs.declared.tree.Tree.TheVariants as tree
use Rattle.tf_model.specs.declared.entry.Entry.{Entry}
use Rattle.tf_model.specs.declared.entry.Kind.TheVariants as kind
use Rattle.tf_core.specs.Legal.{AreTaken, IsTaken, reading}
use Rattle.tf_mapping.specs.Documents as Documents
use Rattle.tf_mapping.specs.Documents.{reads}
use Rattle.tf_mapping.specs.Routes.{hash_of, shard_of}
use Rattle.tf_mapping.specs.Written.{is_written}
use Rattle.std.specs.List.Sorted.{IsStrictlySortedBy}

abbrev example_index : Entry
example_index = record { at_ms = pos 5; actor = 1; kind = kind.Index (codes "a") 1 (record { fields = [] }) None false }

abbrev example_write : ℕ → List ℕ → Entry
example_write seq id = record { at_ms = pos 7; actor = 2; kind = kind.Write 0 0 seq id (tree.Obj []) }

index_taken : IsTaken [] example_index
unfolding reading is_index_name IsStrictlySortedBy
index_taken = record {
  legal = record {
    moment = (omega (arith, ints), omega (arith, ints));
    later = tt;
    actor = omega arith;
    fits = record {
      well_formed = refl;
      free = refl;
      few = omega arith;
      shards = (omega arith, omega arith);
      fields = omega arith;
      field_names = refl;
      ascending = tt;
      stamp = tt;
      slow = refl;
    };
    allowed = tt;
  };
  built = refl;
}

no_members : members_in (tree.Obj []) ≡ Some []
unfolding members_in
no_members = ap members_level (tree.outs-Obj [])

empty_read : (at_ms : ℤ) → is_written (record { fields = [] }) None at_ms (tree.Obj []) ≡ true
unfolding is_written reads Documents.reading
empty_read at_ms = ap (λ o. is_some o && (true && true)) no_members

routed : (id : List ℕ) → shard_of id 1 ≡ 0
unfolding shard_of
routed id = one_part (hash_of id)
  where
    one_part : (n : ℕ) → n % 1 ≡ 0
    one_part n = omega arith

first_taken : IsTaken (example_index ∷ []) (example_write 0 (codes "1"))
unfolding reading
first_taken = record {
  legal = record {
    moment = (omega (arith, ints), omega (arith, ints));
    later = omega (arith, ints);
    actor = omega arith;
    fits = record { routed = sym (routed (codes "1")); next = refl; room = omega arith; id_size = (omega arith, omega arith); id_new = refl; read = empty_read (pos 7) };
    allowed = tt;
  };
  built = refl;
}

second_taken : IsTaken (example_write 0 (codes "1") ∷ example_index ∷ []) (example_write 1 (codes "2"))
unfolding reading
second_taken = record {
  legal = record {
    moment = (omega (arith, ints), omega (arith, ints));
    later = omega (arith, ints);
    actor = omega arith;
    fits = record { routed = sym (routed (codes "2")); next = refl; room = omega arith; id_size = (omega arith, omega arith); id_new = refl; read = empty_read (pos 7) };
    allowed = tt;
  };
  built = refl;
}

example_taken : AreTaken [] (example_index ∷ example_write 0 (codes "1") ∷ example_write 1 (codes "2") ∷ [])
example_taken = (index_taken, (first_taken, (second_taken, tt)))
