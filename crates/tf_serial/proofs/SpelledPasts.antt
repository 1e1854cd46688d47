-- The texts of the documents, and the ids and configurations of the transforms, of a history with a spelling.
use Rattle.std.proofs.Common.{◌≡◌, ℕ, ◌+◌, ◌-◌, ◌<◌, ◌^◌, arith, Bool, true, false, cond, List, [], ◌∷◌, ◌++◌, length, sym, subst}
use Rattle.std.specs.List.{AllByRecursion}
use Rattle.std.specs.Prelude.{filter, not, reverse, slice_get}
use Rattle.std.proofs.lemmas.List.{reverse-append}
use Rattle.std.proofs.lemmas.Str.{IsUtf8-had}
use Rattle.std.proofs.Math.Logic.{∥∥₁_elim, ∥∥₁_map}
use Rattle.std.proofs.Math.Nat.{ℕ_set}
use Rattle.tf_model.specs.declared.config.Agg.{Agg}
use Rattle.tf_model.specs.declared.config.Config.{Config}
use Rattle.tf_model.specs.declared.config.Shape.{Shape}
use Rattle.tf_model.specs.declared.config.Shape.TheVariants as shape
use Rattle.tf_model.specs.declared.doc.Doc.{Doc}
use Rattle.tf_model.specs.declared.entry.Entry.{Entry}
use Rattle.tf_model.specs.declared.entry.Kind.{Kind}
use Rattle.tf_model.specs.declared.entry.Kind.TheVariants as kind
use Rattle.tf_model.specs.declared.tree.Tree.{Tree}
use Rattle.tf_model.specs.Keys.{groups_of}
use Rattle.tf_model.specs.Rows.{aggs_of}
use Rattle.tf_model.specs.Values.{value_of}
use Rattle.tf_event.specs.Configs.{FitsAgg, FitsConfig, FitsShape}
use Rattle.tf_event.specs.Trees.{FitsTree}
use Rattle.tf_event.specs.Entries.{FitsEntry, FitsKind}
use Rattle.tf_event.specs.declared.grammar.Grammar.TheVariants.{First}
use Rattle.tf_history.specs.Catalogue.{SourceIndex, catalogue, written_doc}
use Rattle.tf_history.specs.Lives.{documents, is_same, writes}
use Rattle.tf_history.specs.Reading.{deed_of}
use Rattle.tf_history.specs.Transforms.{PutTransform, transforms, transforms_after}
use Rattle.tf_core.specs.Legal.{read}
use Rattle.tf_core.specs.Texts.{HasTexts, IsShort, IsShortConfig, IsShortPut}
use Rattle.tf_mapping.specs.Documents.{values_of}
use Rattle.tf_store.specs.Standing.{AreSpelled}
use Rattle.tf_serial.proofs.MemberTexts.{read_is_short}

all_append : {X : Type 0} (P : X → Type 0) (xs ys : List X) → AllByRecursion P xs → AllByRecursion P ys → AllByRecursion P (xs ++ ys)
all_append P [] ys a b = b
all_append P (x ∷ xs) ys a b = (a.0, all_append P xs ys a.1 b)

pub all_reverse : {X : Type 0} (P : X → Type 0) (xs : List X) → AllByRecursion P xs → AllByRecursion P (reverse xs)
all_reverse P [] a = tt
all_reverse P (x ∷ xs) a = subst (AllByRecursion P) (sym (reverse-append (x ∷ []) xs)) (all_append P (reverse xs) (x ∷ []) (all_reverse P xs a.1) (a.0, tt))

all_filter : {X : Type 0} (P : X → Type 0) (p : X → Bool) (xs : List X) → AllByRecursion P xs → AllByRecursion P (filter p xs)
all_filter P p [] a = tt
all_filter P p (x ∷ xs) a = elim (p x) as (λ b. AllByRecursion P (cond b (x ∷ filter p xs) (filter p xs))) [
  | true ↦ (a.0, all_filter P p xs a.1)
  | false ↦ all_filter P p xs a.1
]

-- ---- documents
doc_is_short : (indices : List SourceIndex) (index shard seq : ℕ) (id : List ℕ) (tree : Tree) → FitsTree tree → HasTexts IsShort (written_doc values_of indices index shard seq id tree)
unfolding value_of
doc_is_short indices index shard seq id tree fits name text e = read_is_short tree fits (slice_get indices index) name text e

written_short : (indices : List SourceIndex) (k : Kind) → FitsKind First k → AllByRecursion (HasTexts IsShort) (writes (deed_of values_of indices k))
written_short indices (kind.Write index shard seq id tree) fits = (λ name text e. doc_is_short indices index shard seq id tree fits.4 name text e, tt)
written_short indices _ fits = tt

docs_short : (past : List Entry) → AllByRecursion (FitsEntry First) past → AllByRecursion (HasTexts IsShort) (documents (read past))
docs_short [] all = tt
docs_short (e ∷ past) all =
    all_append (HasTexts IsShort) (documents (read past)) (writes (deed_of values_of (catalogue past) e.kind)) (docs_short past all.1) (written_short (catalogue past) e.kind all.0.kind)

-- ---- transforms
abbrev pub HasShortId : PutTransform → Type 0
HasShortId p = IsShort p.id

-- a configuration with a spelling can be counted
agg_name_short : (a : Agg) → FitsAgg a → IsShort a.name
agg_name_short a fits = fits.name

names_short : (aggs : List Agg) → AllByRecursion FitsAgg aggs → AllByRecursion (λ (a : Agg). IsShort a.name) aggs
names_short [] all = tt
names_short (a ∷ aggs) all = (agg_name_short a all.0, names_short aggs all.1)

by_shape : (s : Shape) → FitsShape s → (length (groups_of s) < 2 ^ 32) × (length (aggs_of s) < 2 ^ 32) × AllByRecursion (λ (a : Agg). IsShort a.name) (aggs_of s)
by_shape (shape.Pivot groups aggs) fits = (fits.0.0.0, fits.1.0.0, names_short aggs fits.1.0.1)
by_shape (shape.Latest unique_key sort) fits = (omega arith, omega arith, tt)

config_short : (c : Config) → FitsConfig First c → IsShortConfig c
config_short c fits = let parts = by_shape c.shape fits.shape in record { groups = parts.0; aggs = parts.1; names = parts.2 }

-- an id and a configuration with spellings
abbrev pub IsSpelledPut : PutTransform → Type 0
IsSpelledPut p = HasShortId p × IsShortPut p

put_short : (indices : List SourceIndex) (k : Kind) (before : List PutTransform) → FitsKind First k → AllByRecursion IsSpelledPut before → AllByRecursion IsSpelledPut (transforms_after indices k before)
put_short indices (kind.Put id config) before fits all = ((fits.0, config_short config fits.1), all)
put_short indices (kind.Delete id) before fits all = all_filter IsSpelledPut (λ (p : PutTransform). not (is_same id p.id)) before all
put_short indices _ before fits all = all

puts_short : (past : List Entry) → AllByRecursion (FitsEntry First) past → AllByRecursion IsSpelledPut (transforms past)
puts_short [] all = tt
puts_short (e ∷ past) all = put_short (catalogue past) e.kind (transforms past) all.0.kind (puts_short past all.1)

-- ---- what is known to be there
not_over : (n most : ℕ) → n < most → (n + 1) - most ≡ 0
not_over n most h = omega arith

short_had : (text : List ℕ) → ∥ IsShort text ∥₁ → IsShort text
short_had text t =
    let none_over : (length text + 1) - 2 ^ 32 ≡ 0 = ∥∥₁_elim t (hlevel ℕ_set) (λ (s : IsShort text). not_over (length text) (2 ^ 32) s.0) in
    (omega (arith, none_over), IsUtf8-had text (∥∥₁_map t (λ (s : IsShort text). s.1)))

docs_had : (docs : List Doc) → ∥ AllByRecursion (HasTexts IsShort) docs ∥₁ → AllByRecursion (HasTexts IsShort) docs
docs_had [] t = tt
docs_had (d ∷ docs) t =
    (λ name text e. short_had text (∥∥₁_map t (λ (all : AllByRecursion (HasTexts IsShort) (d ∷ docs)). all.0 name text e)), docs_had docs (∥∥₁_map t (λ (all : AllByRecursion (HasTexts IsShort) (d ∷ docs)). all.1)))

few_had : (n : ℕ) → ∥ n < 2 ^ 32 ∥₁ → n < 2 ^ 32
few_had n t =
    let none_over : (n + 1) - 2 ^ 32 ≡ 0 = ∥∥₁_elim t (hlevel ℕ_set) (λ (few : n < 2 ^ 32). not_over n (2 ^ 32) few) in
    omega (arith, none_over)

names_had : (aggs : List Agg) → ∥ AllByRecursion (λ (a : Agg). IsShort a.name) aggs ∥₁ → AllByRecursion (λ (a : Agg). IsShort a.name) aggs
names_had [] t = tt
names_had (a ∷ aggs) t =
    (short_had a.name (∥∥₁_map t (λ (all : AllByRecursion (λ (a : Agg). IsShort a.name) (a ∷ aggs)). all.0)), names_had aggs (∥∥₁_map t (λ (all : AllByRecursion (λ (a : Agg). IsShort a.name) (a ∷ aggs)). all.1)))

config_had : (c : Config) → ∥ IsShortConfig c ∥₁ → IsShortConfig c
config_had c t = record {
  groups = few_had (length (groups_of c.shape)) (∥∥₁_map t (λ (short : IsShortConfig c). short.groups));
  aggs = few_had (length (aggs_of c.shape)) (∥∥₁_map t (λ (short : IsShortConfig c). short.aggs));
  names = names_had (aggs_of c.shape) (∥∥₁_map t (λ (short : IsShortConfig c). short.names));
}

put_had : (p : PutTransform) → ∥ IsSpelledPut p ∥₁ → IsSpelledPut p
put_had p t = (short_had p.id (∥∥₁_map t (λ (spelled : IsSpelledPut p). spelled.0)), config_had p.config (∥∥₁_map t (λ (spelled : IsSpelledPut p). spelled.1)))

puts_had : (puts : List PutTransform) → ∥ AllByRecursion IsSpelledPut puts ∥₁ → AllByRecursion IsSpelledPut puts
puts_had [] t = tt
puts_had (p ∷ puts) t =
    (put_had p (∥∥₁_map t (λ (all : AllByRecursion IsSpelledPut (p ∷ puts)). all.0)), puts_had puts (∥∥₁_map t (λ (all : AllByRecursion IsSpelledPut (p ∷ puts)). all.1)))

-- the texts of documents have spellings
pub texts_are_short : (history : List Entry) → AreSpelled history → AllByRecursion (HasTexts IsShort) (documents (read (reverse history)))
texts_are_short history t = docs_had (documents (read (reverse history))) (∥∥₁_map t (λ (all : AllByRecursion (FitsEntry First) history). docs_short (reverse history) (all_reverse (FitsEntry First) history all)))

-- the ids of transforms have spellings, and their configurations can be counted
pub puts_are_spelled : (history : List Entry) → AreSpelled history → AllByRecursion IsSpelledPut (transforms (reverse history))
puts_are_spelled history t = puts_had (transforms (reverse history)) (∥∥₁_map t (λ (all : AllByRecursion (FitsEntry First) history). puts_short (reverse history) (all_reverse (FitsEntry First) history all)))
