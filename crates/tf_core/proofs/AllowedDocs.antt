-- Which documents are taken.
use Rattle.std.proofs.Common.{◌≡◌, ℕ, true, false, List, Option, Some, None, ltb-true, lt-ltb}
use Rattle.std.specs.Prelude.{ℤ, IsSomeAnd}
use Rattle.std.specs.Cmp.Derive.{both_true}
use Rattle.tf_model.specs.declared.doc.Doc.{Doc}
use Rattle.tf_model.specs.declared.tree.Tree.{Tree}
use Rattle.tf_history.specs.Catalogue.{SourceIndex}
use Rattle.tf_history.specs.LegalEntries.{MayWrite}
use Rattle.tf_mapping.specs.Written.{is_written}
use Rattle.tf_core.specs.Allowing.{has_place, is_used, takes_document}
use Rattle.tf_core.specs.Legal.{reading}
use Rattle.tf_core.proofs.Truths.{both, not_true, nat_at_most, at_most_nat, same_nat, nat_same, false_not}

module _ (docs : List Doc) (moment : ℤ) (index shard seq : ℕ) (id : List ℕ) (tree : Tree) where
  abbrev pub IsTakenBy : Option SourceIndex → Type 0
  IsTakenBy o = IsSomeAnd o (λ s. MayWrite reading docs moment s index shard seq id tree)

  pub document_may : (o : Option SourceIndex) → takes_document o docs moment index shard seq id tree ≡ true → IsTakenBy o
  unfolding reading
  document_may None e = absurd (let z : false ≡ true = e in cc)
  document_may (Some s) e =
      let a = both (has_place s docs index shard seq id) (is_written s.mapping s.stamp moment tree) e in
      let p = both _ _ a.0 in
      let q = both _ _ p.1 in
      let r = both _ _ q.1 in
      let t = both _ _ r.1 in
      let u = both _ _ t.1 in
      record {
        routed = same_nat _ _ p.0;
        next = same_nat _ _ q.0;
        room = ltb-true _ _ r.0;
        id_size = (nat_at_most _ _ t.0, nat_at_most _ _ u.0);
        id_new = not_true (is_used index id docs) u.1;
        read = a.1;
      }

  pub may_document : (o : Option SourceIndex) → IsTakenBy o → takes_document o docs moment index shard seq id tree ≡ true
  unfolding reading
  may_document None may = absurd may
  may_document (Some s) may =
      both_true (both_true (nat_same _ _ may.routed) (both_true (nat_same _ _ may.next) (both_true (lt-ltb _ _ may.room) (both_true (at_most_nat _ _ may.id_size.0)
      (both_true (at_most_nat _ _ may.id_size.1) (false_not (is_used index id docs) may.id_new))))))
      may.read
