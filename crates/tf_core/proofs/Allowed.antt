-- The tests say which entries are taken.
use Rattle.std.proofs.Common.{◌≡◌, ℕ, ◌<◌, ◌≤◌, true, not, List, [], ◌∷◌, length, map, Option, Some, None, refl, sym, ap, subst, ◌∙◌, ltb-true, lt-ltb}
use Rattle.std.specs.Prelude.{ℤ, ◌||◌, int_le, IfSome}
use Rattle.std.specs.List.{list_any}
use Rattle.std.specs.Str.{bytes_eq}
use Rattle.std.specs.Cmp.Derive.{both_true}
use Rattle.tf_model.specs.declared.doc.Doc.{Doc}
use Rattle.tf_model.specs.declared.entry.Entry.{Entry}
use Rattle.tf_model.specs.Conditions.{IsSpan}
use Rattle.tf_history.specs.Catalogue.{SourceIndex}
use Rattle.tf_history.specs.Legality.{IsNotBefore}
use Rattle.tf_history.specs.LegalEntries.{MayIndex, is_free, has_date}
use Rattle.tf_history.specs.Transforms.{PutTransform}
use Rattle.tf_core.specs.declared.transform.Transform.{Transform}
use Rattle.tf_core.specs.Allowing.{is_timely, is_index, is_dest, is_free_name, is_stamp, takes_index}
use Rattle.tf_core.specs.BuiltPast.{IsBuiltPast}
use Rattle.tf_core.specs.Legal.{reading, read}
use Rattle.tf_core.specs.Moves.{last_ms_in}
use Rattle.tf_core.specs.Standing.{Stands}
use Rattle.tf_core.specs.Summary.{put_of}
use Rattle.tf_core.proofs.Truths.{both, not_true, int_at_most, at_most_int, nat_at_most, at_most_nat, false_not, not_or}
use Rattle.tf_core.proofs.BuiltPast.{built_past}
use Rattle.tf_core.proofs.Fields.{ascending_is, is_ascending}

-- ---- moments
pub in_span : (last_ms at_ms : ℤ) (actor : ℕ) → is_timely last_ms at_ms actor ≡ true → IsSpan at_ms
in_span last_ms at_ms actor e = let a = both _ _ e in let b = both _ _ a.1 in (int_at_most _ _ a.0, int_at_most _ _ b.0)

pub timely : (past : List Entry) (at_ms : ℤ) (actor : ℕ) → is_timely (last_ms_in past) at_ms actor ≡ true → IsSpan at_ms × IsNotBefore at_ms (read past) × (actor ≤ 15)
timely past at_ms actor e =
    let a = both _ _ e in
    let b = both _ _ a.1 in
    let c = both _ _ b.1 in
    (in_span (last_ms_in past) at_ms actor e, later past c.0, nat_at_most _ _ c.1)
  where
    later : (past : List Entry) → int_le (last_ms_in past) at_ms ≡ true → IsNotBefore at_ms (read past)
    later [] e = tt
    later (f ∷ past) e = int_at_most _ _ e

pub is_timely_for : (past : List Entry) (at_ms : ℤ) (actor : ℕ) → IsSpan at_ms → IsNotBefore at_ms (read past) → actor ≤ 15 → is_timely (last_ms_in past) at_ms actor ≡ true
is_timely_for past at_ms actor span later few =
    both_true (at_most_int _ _ span.0) (both_true (at_most_int _ _ span.1) (both_true (not_later past later) (at_most_nat _ _ few)))
  where
    not_later : (past : List Entry) → IsNotBefore at_ms (read past) → int_le (last_ms_in past) at_ms ≡ true
    not_later [] h = at_most_int _ _ span.0
    not_later (f ∷ past) h = at_most_int _ _ h

module _ (past : List Entry) (indices : List SourceIndex) (docs : List Doc) (ts : List Transform) (s : Stands past indices docs ts) where
  -- what the past has, by what is kept
  pub built : IsBuiltPast indices docs (map put_of ts)
  built = subst (λ (p : List SourceIndex × List Doc × List PutTransform). IsBuiltPast p.0 p.1 p.2) (λ i. (s.indices_are i, s.docs_are i, s.transforms_are i)) (built_past past s.taken)

  dests : (name : List ℕ) (ts : List Transform) → list_any (λ (p : PutTransform). bytes_eq name p.config.dest) (map put_of ts) ≡ is_dest ts name
  dests name [] = refl
  dests name (t ∷ ts) = ap (λ b. bytes_eq name t.config.dest || b) (dests name ts)

  pub free_is : (name : List ℕ) → is_free name past ≡ is_free_name indices ts name
  free_is name =
      (λ i. not (is_index (s.indices_are i) name || list_any (λ (p : PutTransform). bytes_eq name p.config.dest) (s.transforms_are i)))
      ∙ (ap (λ b. not (is_index indices name || b)) (dests name ts) ∙ not_or (is_index indices name) (is_dest ts name))

  -- ---- an index
  stamp_may : (i : SourceIndex) (stamp : Option (List ℕ)) → is_stamp i.mapping stamp ≡ true → IfSome stamp (λ field. has_date i.mapping field ≡ true)
  stamp_may i None e = tt
  stamp_may i (Some field) e = e

  may_stamp : (i : SourceIndex) (stamp : Option (List ℕ)) → IfSome stamp (λ field. has_date i.mapping field ≡ true) → is_stamp i.mapping stamp ≡ true
  may_stamp i None h = refl
  may_stamp i (Some field) h = h

  pub index_may : (i : SourceIndex) → takes_index indices ts i ≡ true → MayIndex reading past i
  unfolding reading
  index_may i e =
      let a = both _ _ e in
      let b = both _ _ a.1 in
      let c = both _ _ b.1 in
      let d = both _ _ c.1 in
      let f = both _ _ d.1 in
      let g = both _ _ f.1 in
      let h = both _ _ g.1 in
      let k = both _ _ h.1 in
      let n = both _ _ k.1 in
      record {
        well_formed = a.0;
        free = free_is i.name ∙ b.0;
        few = subst (λ is. length is < 64) (sym s.indices_are) (ltb-true _ _ c.0);
        shards = (nat_at_most _ _ d.0, nat_at_most _ _ f.0);
        fields = nat_at_most _ _ g.0;
        field_names = h.0;
        ascending = ascending_is i.mapping.fields k.0;
        stamp = stamp_may i i.stamp n.0;
        slow = not_true i.quick n.1;
      }

  pub may_index : (i : SourceIndex) → MayIndex reading past i → takes_index indices ts i ≡ true
  unfolding reading
  may_index i m =
      both_true m.well_formed (both_true (sym (free_is i.name) ∙ m.free) (both_true (lt-ltb _ _ (subst (λ is. length is < 64) s.indices_are m.few))
      (both_true (at_most_nat _ _ m.shards.0) (both_true (at_most_nat _ _ m.shards.1) (both_true (at_most_nat _ _ m.fields) (both_true m.field_names
      (both_true (is_ascending i.mapping.fields m.ascending) (both_true (may_stamp i i.stamp m.stamp) (false_not i.quick m.slow)))))))))
