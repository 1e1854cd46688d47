-- The entries that commands ask for have a spelling.
use Rattle.std.proofs.Common.{◌≡◌, ℕ, ◌<◌, ◌≤◌, ◌^◌, ℤ, pos, negsuc, true, List, [], ◌∷◌, length, drop, map, zero, suc, IsUtf8, FitsSigned, w64, ap, refl, arith}
use Rattle.std.specs.Cmp.Derive.{both_true}
use Rattle.std.specs.Cmp.Lexicographic.{slice_cmp}
use Rattle.std.specs.List.{AllByRecursion, list_all}
use Rattle.std.specs.List.Sorted.{IsStrictlySortedBy}
use Rattle.std.specs.Ordering.{is_lt, nat_cmp}
use Rattle.std.specs.declared.cmp.Ordering.TheVariants.{Less}
use Rattle.std.proofs.lemmas.Bool.{and_parts}
use Rattle.std.proofs.lemmas.Int.{ints}
use Rattle.tf_model.specs.declared.entry.Entry.{Entry}
use Rattle.tf_model.specs.declared.entry.Kind.{Kind}
use Rattle.tf_model.specs.declared.entry.Kind.TheVariants as kind
use Rattle.tf_model.specs.declared.query.Mapping.{Mapping}
use Rattle.tf_model.specs.declared.tree.Tree.{Tree}
use Rattle.tf_model.specs.Conditions.{IsSpan}
use Rattle.tf_model.specs.Names.{is_field_path}
use Rattle.tf_command.specs.Formed.{IsDocumentId}
use Rattle.tf_event.specs.Entries.{FitsEntry, FitsKind}
use Rattle.tf_event.specs.Spelling.{FitsPair, FitsText}
use Rattle.tf_event.specs.Trees.{FitsTree}
use Rattle.tf_event.specs.Values.{Field, FitsMapping, FitsType, ascends, ascends_above, field_name}
use Rattle.tf_event.specs.declared.grammar.Grammar.TheVariants.{First}
use Rattle.tf_mapping.specs.Mappings.{IsMapping}
use Rattle.tf_core.specs.Legal.{IsTakenPast}
use Rattle.tf_decide.specs.Asking.{entry_after}
use Rattle.tf_decide.proofs.Sound.{moment_span, path_short}

-- ---- mappings
above : (name : List ℕ) (others : List (List ℕ)) → AllByRecursion (λ other. slice_cmp nat_cmp name other ≡ Less) others → IsStrictlySortedBy (slice_cmp nat_cmp) others → ascends_above name others ≡ true
unfolding IsStrictlySortedBy
above name [] below sorted = refl
above name (other ∷ others) below sorted = both_true (ap is_lt below.0) (above other others sorted.0 sorted.1)

all_ascend : (xs : List (List ℕ)) → IsStrictlySortedBy (slice_cmp nat_cmp) xs → ascends xs ≡ true
unfolding IsStrictlySortedBy
all_ascend [] sorted = refl
all_ascend (name ∷ xs) sorted = above name xs sorted.0 sorted.1

fields_fit : (fields : List Field) → list_all (λ (f : Field). is_field_path f.0) fields ≡ true → AllByRecursion (λ (f : Field). IsUtf8 f.0) fields → AllByRecursion (FitsPair FitsText FitsType) fields
fields_fit [] named utf8 = tt
fields_fit (f ∷ fields) named utf8 =
    let parts = and_parts (is_field_path f.0) (list_all (λ (f : Field). is_field_path f.0) fields) named in
    let short = path_short f.0 parts.0 in
    (((omega (arith, short), utf8.0), tt), fields_fit fields parts.1 utf8.1)

pub mapping_fits : (mapping : Mapping) → IsMapping mapping → AllByRecursion (λ (f : Field). IsUtf8 f.0) mapping.fields → FitsMapping mapping
mapping_fits mapping is utf8 = let few = is.few in ((omega (arith, few), fields_fit mapping.fields is.named utf8), all_ascend (map field_name mapping.fields) is.ascend)

-- nothing is left behind the last one
pub none_behind : (P : Field → Type 0) (fields : List Field) (n : ℕ) → length fields ≤ n → AllByRecursion P (drop n fields)
none_behind P [] zero past = tt
none_behind P [] (suc n) past = tt
none_behind P (f ∷ fields) zero past = absurd (omega arith)
none_behind P (f ∷ fields) (suc n) past = none_behind P fields n (omega arith)

-- ---- entries
pub span_fits : (ms : ℤ) → IsSpan ms → FitsSigned w64 ms
span_fits (pos n) span = record { sfits = omega (arith, ints, span.1) }
span_fits (negsuc n) span = absurd (omega (arith, ints, span.0))

pub entry_fits : (past : List Entry) (actor : ℕ) (given : ℤ) (k : Kind) → IsTakenPast past → actor ≤ 15 → FitsKind First k → FitsEntry First (entry_after past actor given k)
entry_fits past actor given k taken few fits = record { at_ms = span_fits _ (moment_span past given taken); actor = omega (arith, few); kind = fits }

pub document_fits : (past : List Entry) (actor : ℕ) (given : ℤ) (index shard seq : ℕ) (id : List ℕ) (tree : Tree) → IsTakenPast past → actor ≤ 15 → index < 2 ^ 32 → shard < 2 ^ 32
    → seq < 2 ^ 64 → IsDocumentId id → IsUtf8 id → FitsTree tree → FitsEntry First (entry_after past actor given (kind.Write index shard seq id tree))
document_fits past actor given index shard seq id tree taken few small_index small_shard small_seq sized utf8 fits =
    entry_fits past actor given (kind.Write index shard seq id tree) taken few (small_index, small_shard, small_seq, (omega (arith, sized.1), utf8), fits)
