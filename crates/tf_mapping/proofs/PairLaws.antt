-- Values read one after another, in the order of their fields.
use Rattle.std.proofs.Common.{◌≡◌, ℕ, ◌+◌, ◌<◌, List, [], ◌∷◌, ◌++◌, length, drop, get_or, suc, Option, Some, None, Result, Ok, Err, Bool, true, false, cond, sym, ap, ◌∙◌, refl, subst, arith, length-append}
use Rattle.std.specs.Prelude.{not, unwrap_or}
use Rattle.std.specs.Option.{option_and_then}
use Rattle.std.specs.Result.{result_ok}
use Rattle.tf_model.specs.declared.tree.Tree.{Tree}
use Rattle.tf_model.specs.declared.value.Value.{Value}
use Rattle.tf_model.specs.declared.value.Value.TheVariants as value
use Rattle.tf_model.specs.Paired.{is_null, paired}
use Rattle.tf_mapping.specs.declared.error.DocError.{DocError}
use Rattle.tf_mapping.specs.Documents.{ok_map, value_in, value_found, field_in, fields_in, unstamped, with_value, Answers}
use Rattle.tf_mapping.proofs.DocumentLaws.{Field, Values, IsSoFar, read_at, read_value}
use Rattle.tf_mapping.proofs.FitLaws.{found_fits, not_null}

-- nothing is no value
abbrev there : Value → Option Value
there w = cond (is_null w) None (Some w)

-- one value more
paired_more : (fields : List Field) (values : List Value) (field : Field) (w : Value) → length values < length fields → field ≡ get_or fields (length values) field
    → paired fields (values ++ w ∷ []) ≡ paired fields values ++ with_value field.0 (there w) []
paired_more [] [] field w within is = absurd (omega arith)
paired_more [] (v ∷ values) field w within is = absurd (omega arith)
paired_more (f ∷ fields) [] field w within is = by (is_null w)
  where
    by : (b : Bool) → cond b [] ((f.0, w) ∷ []) ≡ with_value field.0 (cond b None (Some w)) []
    by true = refl
    by false = ap (λ (g : Field). (g.0, w) ∷ []) (sym is)
paired_more (f ∷ fields) (v ∷ values) field w within is = by (is_null v) (paired_more fields values field w (omega arith) is)
  where
    by : (b : Bool) → paired fields (values ++ w ∷ []) ≡ paired fields values ++ with_value field.0 (there w) []
        → cond b (paired fields (values ++ w ∷ [])) ((f.0, v) ∷ paired fields (values ++ w ∷ [])) ≡ cond b (paired fields values) ((f.0, v) ∷ paired fields values) ++ with_value field.0 (there w) []
    by true e = e
    by false e = ap (λ rest. (f.0, v) ∷ rest) e

-- a value that is read is there
there_is : (t : Tree) (field : Field) (v : Option Value) → value_in t field ≡ Ok v → there (unwrap_or v value.Null) ≡ v
there_is t field None h = refl
there_is t field (Some w) h =
    by (is_null w) (not_null field.1 w (found_fits t field w (ap (λ (found : Result (Option Value) DocError). option_and_then (λ (x : Option Value). x) (result_ok found)) h)))
  where
    by : (b : Bool) → not b ≡ true → cond b None (Some w) ≡ Some w
    by true e = absurd (cc)
    by false e = refl

pub more_read : (stamp : Option (List ℕ)) (t : Tree) (fields : List Field) (values more : List Value) (at : ℕ) (field : Field) (v : Option Value) → at < length fields → field ≡ get_or fields at field → length values ≡ at
    → IsSoFar stamp t fields (paired fields values) at → Answers (field_in stamp t field) (Ok v) → more ≡ values ++ unwrap_or v value.Null ∷ [] → IsSoFar stamp t fields (paired fields more) (at + 1)
more_read stamp t fields values more at field v within is long so_far h added =
    let w : Value = unwrap_or v value.Null in
    read_at stamp t fields (paired fields values) (paired fields more) at field v within is so_far h
    (ap (paired fields) added
    ∙ paired_more fields values field w (subst (λ n. n < length fields) (sym long) within) (is ∙ ap (λ n. get_or fields n field) (sym long))
    ∙ ap (λ o. paired fields values ++ with_value field.0 o []) (there_is t field v (read_value stamp field.0 (value_in t field) v (sym h))))

pub one_longer : (values more : List Value) (w : Value) (at : ℕ) → length values ≡ at → more ≡ values ++ w ∷ [] → length more ≡ at + 1
one_longer values more w at long added = ap length added ∙ length-append values (w ∷ []) ∙ ap (λ n. n + 1) long
