-- A past whose entries were taken has indices, their documents, and pivots that pass their checks over these.
use Rattle.std.proofs.Common.{◌≡◌, ℕ, zero, suc, ◌<◌, Bool, true, false, List, [], ◌∷◌, ◌++◌, length, length-append, append-nil, Option, Some, None, refl, sym, ap, subst, ◌∙◌, arith}
use Rattle.std.specs.Prelude.{ℤ, slice_get, IsSomeAnd, IfSome, if◌then◌else◌, is_some, option_map}
use Rattle.std.specs.List.{AllByRecursion, list_any, cons_option}
use Rattle.std.specs.Str.{bytes_eq}
use Rattle.tf_config.specs.Refusals.{passes}
use Rattle.tf_config.specs.Catalogue.{mapping_named}
use Rattle.tf_config.proofs.GrowthLaws.{AreThere, passes_still, sources_there}
use Rattle.tf_model.specs.declared.doc.Doc.{Doc}
use Rattle.tf_model.specs.declared.tree.Tree.{Tree}
use Rattle.tf_model.specs.declared.config.Config.{Config}
use Rattle.tf_model.specs.declared.entry.Entry.{Entry}
use Rattle.tf_model.specs.declared.entry.Kind.{Kind}
use Rattle.tf_model.specs.declared.entry.Kind.TheVariants as kind
use Rattle.tf_history.specs.Catalogue.{SourceIndex, catalogue, makes, number_of, source_numbers, values_in, written_doc}
use Rattle.tf_history.specs.LegalEntries.{FitsKind, MayIndex, MayWrite, has_date}
use Rattle.tf_history.specs.Lives.{documents, writes}
use Rattle.tf_history.specs.Reading.{deed_of}
use Rattle.tf_history.specs.Transforms.{PutTransform, transforms, transforms_after}
use Rattle.tf_mapping.specs.Documents.{values_of}
use Rattle.tf_mapping.specs.Mappings.{IsStampOf}
use Rattle.tf_core.specs.Built.{is_built, is_built_config}
use Rattle.tf_core.specs.BuiltPast.{IsBuiltIndex, IsBuiltDoc, IsBuiltPut, IsBuiltPast}
use Rattle.tf_core.specs.Legal.{reading, read, IsTakenPast}
use Rattle.tf_core.specs.Sources.{catalogued, named}
use Rattle.tf_core.proofs.Fields.{stamp_type}
use Rattle.tf_core.proofs.NamedOnce.{new_name, one_more}
use Rattle.tf_core.proofs.Numbers.{position_cons}

pub all_append : {X : Type 0} (P : X → Type 0) (xs ys : List X) → AllByRecursion P xs → AllByRecursion P ys → AllByRecursion P (xs ++ ys)
all_append P [] ys a b = b
all_append P (x ∷ xs) ys a b = (a.0, all_append P xs ys a.1 b)

pub all_weaken : {X : Type 0} (P Q : X → Type 0) → ((x : X) → P x → Q x) → (xs : List X) → AllByRecursion P xs → AllByRecursion Q xs
all_weaken P Q f [] all = tt
all_weaken P Q f (x ∷ xs) all = (f x all.0, all_weaken P Q f xs all.1)

-- ---- indices that come later
later_index : (indices more : List SourceIndex) (n : ℕ) (P : SourceIndex → Type 0) → IsSomeAnd (slice_get indices n) P → IsSomeAnd (slice_get (indices ++ more) n) P
later_index [] more n P h = absurd h
later_index (s ∷ indices) more zero P h = h
later_index (s ∷ indices) more (suc n) P h = later_index indices more n P h

catalogued_more : (indices more : List SourceIndex) → catalogued (indices ++ more) ≡ catalogued indices ++ catalogued more
catalogued_more [] more = refl
catalogued_more (s ∷ indices) more = ap (λ rest. named s ∷ rest) (catalogued_more indices more)

module _ (more : List SourceIndex) where
  -- an index that is found by its name is found among more, with its number
  number_more : (indices : List SourceIndex) (name : List ℕ) → is_some (mapping_named (catalogued indices) name) ≡ true
      → number_of name (indices ++ more) ≡ number_of name indices
  number_more [] name e = absurd (let z : false ≡ true = e in cc)
  number_more (s ∷ indices) name e =
      position_cons (λ (s : SourceIndex). bytes_eq name s.name) s (indices ++ more)
      ∙ (by (bytes_eq name s.name) (λ f. number_more indices name f) e ∙ sym (position_cons (λ (s : SourceIndex). bytes_eq name s.name) s indices))
    where
      by : (b : Bool) → (is_some (mapping_named (catalogued indices) name) ≡ true → number_of name (indices ++ more) ≡ number_of name indices)
          → is_some (if b then Some s.mapping else mapping_named (catalogued indices) name) ≡ true
          → (if b then Some 0 else option_map suc (number_of name (indices ++ more))) ≡ (if b then Some 0 else option_map suc (number_of name indices))
      by true rest f = refl
      by false rest f = ap (option_map suc) (rest f)

  numbers_more : (indices : List SourceIndex) (names : List (List ℕ)) → AreThere (catalogued indices) names
      → source_numbers indices names ≡ source_numbers (indices ++ more) names
  numbers_more indices [] e = refl
  numbers_more indices (name ∷ names) e = λ i. cons_option (sym (number_more indices name e.0) i) (numbers_more indices names e.1 i)

  later_put : (indices : List SourceIndex) (p : PutTransform) → IsBuiltPut indices p → IsBuiltPut (indices ++ more) p
  later_put indices p b = record {
    sources = b.sources ∙ numbers_more indices p.config.sources (sources_there (catalogued indices) p.config b.checked);
    form = b.form;
    checked = ap (λ cat. passes cat p.config) (catalogued_more indices more) ∙ passes_still (catalogued indices) (catalogued more) p.config b.checked;
  }

  later_doc : (indices : List SourceIndex) (d : Doc) → IsBuiltDoc indices d → IsBuiltDoc (indices ++ more) d
  later_doc indices d b = later_index indices more d.index (λ i. d.values ≡ values_of i.mapping i.stamp d.tree) b

-- what the entry does not touch
unchanged : (indices : List SourceIndex) (docs : List Doc) (puts : List PutTransform) → IsBuiltPast indices docs puts → IsBuiltPast (indices ++ []) (docs ++ []) puts
unchanged indices docs puts b = subst (λ (p : List SourceIndex × List Doc). IsBuiltPast p.0 p.1 puts) (λ i. (sym (append-nil indices) i, sym (append-nil docs) i)) b

-- ---- an index more
index_is : (past : List Entry) (s : SourceIndex) → MayIndex reading past s → IsBuiltIndex s
unfolding reading
index_is past s may = record {
  some_shard = may.shards.0;
  mapping = record { ascend = may.ascending; named = may.field_names; few = may.fields };
  stamp = stamped s.stamp may.stamp;
}
  where
    stamped : (stamp : Option (List ℕ)) → IfSome stamp (λ field. has_date s.mapping field ≡ true) → IsStampOf s.mapping stamp
    stamped None h = tt
    stamped (Some field) h = stamp_type s.mapping field may.ascending h

indexed : (indices : List SourceIndex) (docs : List Doc) (puts : List PutTransform) (s : SourceIndex) → IsBuiltPast indices docs puts → length indices < 64
    → list_any (λ (t : SourceIndex). bytes_eq s.name t.name) indices ≡ false → IsBuiltIndex s
    → IsBuiltPast (indices ++ s ∷ []) (docs ++ []) puts
indexed indices docs puts s b few new is =
    subst (λ ds. IsBuiltPast (indices ++ s ∷ []) ds puts) (sym (append-nil docs))
    (record {
      few_indices = omega (arith, length-append indices (s ∷ []), few);
      named_once = one_more indices s b.named_once new;
      each_index = all_append IsBuiltIndex indices (s ∷ []) b.each_index (is, tt);
      each_doc = all_weaken (IsBuiltDoc indices) (IsBuiltDoc (indices ++ s ∷ [])) (later_doc (s ∷ []) indices) docs b.each_doc;
      few_puts = b.few_puts;
      each_put = all_weaken (IsBuiltPut indices) (IsBuiltPut (indices ++ s ∷ [])) (later_put (s ∷ []) indices) puts b.each_put;
    })

-- ---- a document more
wrote : (indices : List SourceIndex) (docs : List Doc) (puts : List PutTransform) (moment : ℤ) (index shard seq : ℕ) (id : List ℕ) (tree : Tree)
    → IsBuiltPast indices docs puts → IsSomeAnd (slice_get indices index) (λ s. MayWrite reading docs moment s index shard seq id tree)
    → IsBuiltPast (indices ++ []) (docs ++ written_doc values_of indices index shard seq id tree ∷ []) puts
wrote indices docs puts moment index shard seq id tree b may =
    let d = written_doc values_of indices index shard seq id tree in
    subst (λ is. IsBuiltPast is (docs ++ d ∷ []) puts) (sym (append-nil indices))
    (record {
      few_indices = b.few_indices;
      named_once = b.named_once;
      each_index = b.each_index;
      each_doc = all_append (IsBuiltDoc indices) docs (d ∷ []) b.each_doc (read_by (slice_get indices index) may, tt);
      few_puts = b.few_puts;
      each_put = b.each_put;
    })
  where
    read_by : (o : Option SourceIndex) → IsSomeAnd o (λ s. MayWrite reading docs moment s index shard seq id tree) → IsSomeAnd o (λ i. values_in values_of o tree ≡ values_of i.mapping i.stamp tree)
    read_by None h = absurd h
    read_by (Some s) h = refl

-- ---- a transform more
put : (indices : List SourceIndex) (docs : List Doc) (puts : List PutTransform) (id : List ℕ) (config : Config) → IsBuiltPast indices docs puts → length puts < 64 → is_built_config config ≡ true
    → passes (catalogued indices) config ≡ true
    → IsBuiltPast (indices ++ []) (docs ++ []) (record { id = id; sources = source_numbers indices config.sources; config = config } ∷ puts)
put indices docs puts id config b few form checked =
    unchanged indices docs (record { id = id; sources = source_numbers indices config.sources; config = config } ∷ puts)
    (record {
      few_indices = b.few_indices;
      named_once = b.named_once;
      each_index = b.each_index;
      each_doc = b.each_doc;
      few_puts = omega (arith, few);
      each_put = (record { sources = refl; form = form; checked = checked }, b.each_put);
    })

module _ (past : List Entry) where
  abbrev After : Kind → Type 0
  After k = IsBuiltPast (catalogue past ++ makes k) (documents (read past) ++ writes (deed_of values_of (catalogue past) k)) (transforms_after (catalogue past) k (transforms past))

  step : (moment : ℤ) (k : Kind) → IsBuiltPast (catalogue past) (documents (read past)) (transforms past) → is_built k ≡ true → FitsKind reading past moment k → After k
  unfolding reading
  step moment (kind.Index name shards mapping stamp quick) b built fits =
      let s : SourceIndex = record { name = name; shards = shards; mapping = mapping; stamp = stamp; quick = quick } in
      indexed (catalogue past) (documents (read past)) (transforms past) s b fits.few (new_name _ _ fits.free) (index_is past s fits)
  step moment (kind.Write index shard seq id tree) b built fits = wrote (catalogue past) (documents (read past)) (transforms past) moment index shard seq id tree b fits
  step moment (kind.Put id config) b built fits = put (catalogue past) (documents (read past)) (transforms past) id config b fits.few built fits.checked
  step moment (kind.Start id) b built fits = unchanged (catalogue past) (documents (read past)) (transforms past) b
  step moment (kind.Stopped id) b built fits = unchanged (catalogue past) (documents (read past)) (transforms past) b
  step moment (kind.Begin id n bound) b built fits = unchanged (catalogue past) (documents (read past)) (transforms past) b
  step moment (kind.Page id n rows) b built fits = unchanged (catalogue past) (documents (read past)) (transforms past) b
  step moment (kind.Finish id n) b built fits = unchanged (catalogue past) (documents (read past)) (transforms past) b
  step moment (kind.Fail id n key name value) b built fits = unchanged (catalogue past) (documents (read past)) (transforms past) b
  step moment (kind.Delete id) b built fits = absurd (let z : false ≡ true = built in cc)
  step moment (kind.Reset id) b built fits = absurd (let z : false ≡ true = built in cc)
  step moment (kind.StopAsked id wait) b built fits = absurd (let z : false ≡ true = built in cc)
  step moment (kind.Schedule id) b built fits = absurd (let z : false ≡ true = built in cc)

pub built_past : (past : List Entry) → IsTakenPast past → IsBuiltPast (catalogue past) (documents (read past)) (transforms past)
built_past [] taken = record { few_indices = omega arith; named_once = tt; each_index = tt; each_doc = tt; few_puts = omega arith; each_put = tt }
built_past (e ∷ past) taken = step past e.at_ms e.kind (built_past past taken.0) taken.1.built taken.1.legal.fits
