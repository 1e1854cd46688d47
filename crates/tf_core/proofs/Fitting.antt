-- The documents of a transform fit its configuration, and what is known of their values.
use Rattle.std.proofs.Common.{◌≡◌, ℕ, zero, suc, Bool, true, false, List, [], ◌∷◌, filter, take, Option, Some, None, refl, sym, ap, subst, ◌∙◌}
use Rattle.std.specs.Prelude.{ℤ, ◌||◌, nat_eq, slice_get, if◌then◌else◌, IsSomeAnd, is_none, option_map}
use Rattle.std.specs.List.{AllByRecursion, list_any, cons_option}
use Rattle.std.specs.Str.{bytes_eq}
use Rattle.std.proofs.lemmas.List.Elements.{All-from_recursion}
use Rattle.std.proofs.lemmas.Option.{same_Some}
use Rattle.tf_model.specs.declared.doc.Doc.{Doc}
use Rattle.tf_model.specs.declared.config.Config.{Config}
use Rattle.tf_model.specs.declared.query.FieldType.{FieldType}
use Rattle.tf_model.specs.declared.query.FieldType.TheVariants.{Keyword, Long, Boolean, Date}
use Rattle.tf_model.specs.declared.query.Mapping.{Mapping}
use Rattle.tf_model.specs.declared.value.Value.{Value}
use Rattle.tf_model.specs.declared.value.Value.TheVariants as value
use Rattle.tf_model.specs.Conditions.{AllFit, Fits, IsInRange}
use Rattle.tf_model.specs.Scratch.{is_pivot}
use Rattle.tf_model.specs.Values.{type_of, value_at, value_of}
use Rattle.tf_config.specs.Catalogue.{mapping_named}
use Rattle.tf_config.proofs.ClearLaws.{passing_is_in_range}
use Rattle.tf_config.proofs.TypeLaws.{passing_fits}
use Rattle.tf_history.specs.Catalogue.{SourceIndex, number_of, source_numbers}
use Rattle.tf_history.specs.Transforms.{PutTransform}
use Rattle.tf_mapping.specs.Documents.{AreValues, FitsField, FitsType, values_of}
use Rattle.tf_mapping.specs.Least.{is_one_of}
use Rattle.tf_mapping.proofs.FitLaws.{values_are}
use Rattle.tf_time.specs.Dates.{is_date}
use Rattle.tf_core.specs.Built.{is_built_config}
use Rattle.tf_core.specs.BuiltPast.{IsBuiltDoc, IsBuiltIndex, IsBuiltPast, IsBuiltPut}
use Rattle.tf_core.specs.Sources.{catalogued, is_among}
use Rattle.tf_core.specs.Texts.{HasTexts, HasValues, IsValueOf}
use Rattle.tf_core.proofs.Numbers.{position_cons}
use Rattle.tf_core.proofs.Tables.{all_filter, same_itself}
use Rattle.tf_core.proofs.Truths.{both, int_at_most, none_of, same_nat}

pub all_take : (P : Doc → Type 0) (n : ℕ) (docs : List Doc) → AllByRecursion P docs → AllByRecursion P (take n docs)
all_take P zero docs all = tt
all_take P (suc n) [] all = tt
all_take P (suc n) (d ∷ docs) all = (all.0, all_take P n docs all.1)

-- ---- the form of a configuration
pub record IsForm (c : Config) : Type 0 where
  pub pivot : is_pivot c.shape ≡ true
  pub forever : c.retention ≡ None

pub form_of : (c : Config) → is_built_config c ≡ true → IsForm c
form_of c e =
    let parts = both (is_pivot c.shape) (is_none c.retention) e in
    record { pivot = parts.0; forever = none_of c.retention parts.1 }

pub put_in_range : (indices : List SourceIndex) (p : PutTransform) → IsBuiltPut indices p → IsInRange p.config
put_in_range indices p b = passing_is_in_range (catalogued indices) p.config b.checked

-- ---- the values of a document
date_is : (ms : ℤ) → is_date ms ≡ true → IsValueOf (λ u. Unit {0}) (value.Date ms)
date_is ms e = let parts = both _ _ e in (int_at_most _ _ parts.0, int_at_most _ _ parts.1)

-- a value of a type
typed : (P : List ℕ → Type 0) (kind : FieldType) (v : Value) → ((u : List ℕ) → v ≡ value.Str u → P u) → FitsType kind v → IsValueOf P v
typed P Keyword (value.Str u) known h = known u refl
typed P Keyword value.Null known h = absurd h
typed P Keyword (value.Bool b) known h = absurd h
typed P Keyword (value.Int n) known h = absurd h
typed P Keyword (value.Date ms) known h = absurd h
typed P Long (value.Int n) known h = let parts = both _ _ h in (int_at_most _ _ parts.0, int_at_most _ _ parts.1)
typed P Long value.Null known h = absurd h
typed P Long (value.Bool b) known h = absurd h
typed P Long (value.Date ms) known h = absurd h
typed P Long (value.Str u) known h = absurd h
typed P Boolean (value.Bool b) known h = tt
typed P Boolean value.Null known h = absurd h
typed P Boolean (value.Int n) known h = absurd h
typed P Boolean (value.Date ms) known h = absurd h
typed P Boolean (value.Str u) known h = absurd h
typed P Date (value.Date ms) known h = date_is ms h
typed P Date value.Null known h = absurd h
typed P Date (value.Bool b) known h = absurd h
typed P Date (value.Int n) known h = absurd h
typed P Date (value.Str u) known h = absurd h

by_type : (P : List ℕ → Type 0) (o : Option FieldType) (v : Value) → ((u : List ℕ) → v ≡ value.Str u → P u) → IsSomeAnd o (λ kind. FitsType kind v) → IsValueOf P v
by_type P None v known h = absurd h
by_type P (Some kind) v known h = typed P kind v known h

-- a value that is there is one of its field's type
value_there : (P : List ℕ → Type 0) (mapping : Mapping) (values : List (List ℕ × Value)) (field : List ℕ) (v : Value) → AllByRecursion (FitsField mapping) values
    → ((u : List ℕ) → v ≡ value.Str u → P u) → value_at values field ≡ Some v → IsValueOf P v
value_there P mapping [] field v fit known e = absurd (let z : ◌≡◌ {A = Option Value} None (Some v) = e in cc)
value_there P mapping (x ∷ values) field v fit known e = by (bytes_eq x.0 field) (value_there P mapping values field v fit.1 known) e
  where
    by : (b : Bool) → (value_at values field ≡ Some v → IsValueOf P v) → (if b then Some x.1 else value_at values field) ≡ Some v → IsValueOf P v
    by true rest f =
        let same : x.1 ≡ v = same_Some x.1 v f in
        by_type P (type_of mapping x.0) v known (subst (λ w. IsSomeAnd (type_of mapping x.0) (λ kind. FitsType kind w)) same fit.0)
    by false rest f = rest f

has_values : (P : List ℕ → Type 0) (mapping : Mapping) (d : Doc) → AreValues mapping d.values → HasTexts P d → HasValues P d
unfolding value_of
has_values P mapping d are known field v e = value_there P mapping d.values field v are.fit (λ u is. known field u (e ∙ ap Some is)) e

-- ---- the documents of a past
module _ (indices : List SourceIndex) (each : AllByRecursion IsBuiltIndex indices) where
  -- a document's values are those of its index
  abbrev HasMapping : Doc → Type 0
  HasMapping d = IsSomeAnd (slice_get indices d.index) (λ i. AreValues i.mapping d.values)

  at_index : (indices : List SourceIndex) (n : ℕ) (P Q : SourceIndex → Type 0) → AllByRecursion IsBuiltIndex indices → ((i : SourceIndex) → IsBuiltIndex i → P i → Q i)
      → IsSomeAnd (slice_get indices n) P → IsSomeAnd (slice_get indices n) Q
  at_index [] n P Q all f h = absurd h
  at_index (i ∷ indices) zero P Q all f h = f i all.0 h
  at_index (i ∷ indices) (suc n) P Q all f h = at_index indices n P Q all.1 f h

  has_mapping : (d : Doc) → IsBuiltDoc indices d → HasMapping d
  has_mapping d b =
      at_index indices d.index (λ i. d.values ≡ values_of i.mapping i.stamp d.tree) (λ i. AreValues i.mapping d.values) each
      (λ i is e. subst (AreValues i.mapping) (sym e) (values_are i.mapping i.stamp d.tree is.mapping)) b

  pub doc_values : (P : List ℕ → Type 0) (d : Doc) → IsBuiltDoc indices d → HasTexts P d → HasValues P d
  doc_values P d b known = by (slice_get indices d.index) (has_mapping d b)
    where
      by : (o : Option SourceIndex) → IsSomeAnd o (λ i. AreValues i.mapping d.values) → HasValues P d
      by None h = absurd h
      by (Some i) h = has_values P i.mapping d h known

  -- the name of an index with a number among those of some names
  pub record IsNamed (names : List (List ℕ)) (n : ℕ) : Type 0 where
    pub name : List ℕ
    pub among : is_one_of names name ≡ true
    pub number : number_of name indices ≡ Some n

  name_of : (names : List (List ℕ)) (n : ℕ) → list_any (nat_eq n) (source_numbers indices names) ≡ true → IsNamed names n
  name_of [] n e = absurd (let z : false ≡ true = e in cc)
  name_of (name ∷ names) n e = by (number_of name indices) refl (name_of names n) e
    where
      later : IsNamed names n → IsNamed (name ∷ names) n
      later r = record { name = r.name; among = either (bytes_eq name r.name) (is_one_of names r.name) r.among; number = r.number }
        where
          either : (a b : Bool) → b ≡ true → (a || b) ≡ true
          either true b e = refl
          either false b e = e

      here : (m : ℕ) (b : Bool) → number_of name indices ≡ Some m → nat_eq n m ≡ b → (list_any (nat_eq n) (source_numbers indices names) ≡ true → IsNamed names n)
          → (b || list_any (nat_eq n) (source_numbers indices names)) ≡ true → IsNamed (name ∷ names) n
      here m true is same rest f = record {
        name = name;
        among = ap (λ b. b || is_one_of names name) (same_itself name);
        number = is ∙ ap Some (sym (same_nat n m same));
      }
      here m false is same rest f = later (rest f)

      by : (o : Option ℕ) → number_of name indices ≡ o → (list_any (nat_eq n) (source_numbers indices names) ≡ true → IsNamed names n) → list_any (nat_eq n) (cons_option o (source_numbers indices names)) ≡ true → IsNamed (name ∷ names) n
      by None is rest f = later (rest f)
      by (Some m) is rest f = here m (nat_eq n m) is refl rest f

-- the mapping beside a name is that of the index with its number
mapping_at : (indices : List SourceIndex) (name : List ℕ) (n : ℕ) (P : Mapping → Type 0) → number_of name indices ≡ Some n → IsSomeAnd (slice_get indices n) (λ i. P i.mapping)
    → IsSomeAnd (mapping_named (catalogued indices) name) P
mapping_at [] name n P e h = absurd h
mapping_at (i ∷ indices) name n P e h = by (bytes_eq name i.name) (λ k is g. mapping_at indices name k P is g) (sym (position_cons (λ (s : SourceIndex). bytes_eq name s.name) i indices) ∙ e)
  where
    there : (o : Option ℕ) (m : ℕ) → option_map suc o ≡ Some m → IsSomeAnd (slice_get (i ∷ indices) m) (λ s. P s.mapping)
        → ((k : ℕ) → o ≡ Some k → IsSomeAnd (slice_get indices k) (λ s. P s.mapping) → IsSomeAnd (mapping_named (catalogued indices) name) P)
        → IsSomeAnd (mapping_named (catalogued indices) name) P
    there None m f g rest = absurd (let z : ◌≡◌ {A = Option ℕ} None (Some m) = f in cc)
    there (Some k) m f g rest = rest k refl (subst (λ x. IsSomeAnd (slice_get (i ∷ indices) x) (λ s. P s.mapping)) (sym (same_Some (suc k) m f)) g)

    by : (b : Bool) → ((k : ℕ) → number_of name indices ≡ Some k → IsSomeAnd (slice_get indices k) (λ s. P s.mapping) → IsSomeAnd (mapping_named (catalogued indices) name) P)
        → (if b then Some 0 else option_map suc (number_of name indices)) ≡ Some n → IsSomeAnd (if b then Some i.mapping else mapping_named (catalogued indices) name) P
    by true rest f = subst (λ x. IsSomeAnd (slice_get (i ∷ indices) x) (λ s. P s.mapping)) (sym (same_Some 0 n f)) h
    by false rest f = there (number_of name indices) n f h rest

-- ---- the documents that a transform reads
module _ (indices : List SourceIndex) (docs : List Doc) (puts : List PutTransform) (b : IsBuiltPast indices docs puts) (p : PutTransform) (put : IsBuiltPut indices p) where
  -- a document of a source fits the configuration
  doc_fits : (d : Doc) → is_among p.sources d ≡ true → IsBuiltDoc indices d → Fits p.config d
  doc_fits d among built =
      let n = name_of indices b.each_index p.config.sources d.index (subst (λ sources. list_any (nat_eq d.index) sources ≡ true) put.sources among) in
      by n.name n.among (mapping_named (catalogued indices) n.name) refl (mapping_at indices n.name d.index (λ m. AreValues m d.values) n.number (has_mapping indices b.each_index d built))
    where
      by : (name : List ℕ) → is_one_of p.config.sources name ≡ true → (o : Option Mapping) → mapping_named (catalogued indices) name ≡ o → IsSomeAnd o (λ m. AreValues m d.values) → Fits p.config d
      by name among None is h = absurd h
      by name among (Some m) is h = passing_fits (catalogued indices) p.config name m d put.checked among is h

  all_fit : (ds : List Doc) → AllByRecursion (IsBuiltDoc indices) ds → AllByRecursion (Fits p.config) (filter (is_among p.sources) ds)
  all_fit [] all = tt
  all_fit (d ∷ ds) all = by (is_among p.sources d) refl (all_fit ds all.1)
    where
      by : (x : Bool) → is_among p.sources d ≡ x → AllByRecursion (Fits p.config) (filter (is_among p.sources) ds) → AllByRecursion (Fits p.config) (if x then d ∷ filter (is_among p.sources) ds else filter (is_among p.sources) ds)
      by true is rest = (doc_fits d is all.0, rest)
      by false is rest = rest

  pub reads_fit : (n : ℕ) → AllFit p.config (filter (is_among p.sources) (take n docs))
  reads_fit n = All-from_recursion (Fits p.config) (filter (is_among p.sources) (take n docs)) (all_fit (take n docs) (all_take (IsBuiltDoc indices) n docs b.each_doc))

  -- what is known of their texts is known of their values
  pub reads_have : (P : List ℕ → Type 0) (n : ℕ) → AllByRecursion (HasTexts P) docs → AllByRecursion (HasValues P) (filter (is_among p.sources) (take n docs))
  reads_have P n known = all_filter (HasValues P) (is_among p.sources) (take n docs) (all_take (HasValues P) n docs (values_all docs b.each_doc known))
    where
      values_all : (ds : List Doc) → AllByRecursion (IsBuiltDoc indices) ds → AllByRecursion (HasTexts P) ds → AllByRecursion (HasValues P) ds
      values_all [] all known = tt
      values_all (d ∷ ds) all known = (doc_values indices b.each_index P d all.0 known.0, values_all ds all.1 known.1)
