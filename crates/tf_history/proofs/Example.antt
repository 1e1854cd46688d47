-- Worked histories, by computation. In the first a pivot sums cents by customer: two Pages with a stop between them, a
-- document at the bound that waits, and a second checkpoint. The others show a sum that fails, what retention takes out, and
-- the ties of a latest.
use Rattle.std.proofs.Common.{◌≡◌, ℕ, true, false, List, [], ◌∷◌, ◌++◌, Option, Some, None, arith, refl, sym, ap, ◌∙◌, subst, take, drop, map}
use Rattle.std.specs.Prelude.{pos, codes, option_map}
use Rattle.std.specs.List.Sorted.{IsStrictlySortedBy}
use Rattle.std.proofs.lemmas.Int.{ints}
use Rattle.tf_model.specs.declared.doc.Doc.{Doc}
use Rattle.tf_model.specs.declared.tree.Tree.TheVariants as tree
use Rattle.tf_model.specs.declared.value.Value.{Value}
use Rattle.tf_model.specs.declared.value.Value.TheVariants as value
use Rattle.tf_model.specs.declared.query.Query.TheVariants as query
use Rattle.tf_model.specs.declared.config.Config.{Config}
use Rattle.tf_model.specs.declared.config.Retention.{Retention}
use Rattle.tf_model.specs.declared.config.Agg.{Agg}
use Rattle.tf_model.specs.declared.config.Shape.TheVariants as shape
use Rattle.tf_model.specs.declared.config.GroupKind.TheVariants.{Terms}
use Rattle.tf_model.specs.declared.config.AggKind.TheVariants.{Sum, Max}
use Rattle.tf_model.specs.declared.task.State.TheVariants as state
use Rattle.tf_model.specs.declared.value.Key.{Key}
use Rattle.tf_model.specs.declared.entry.Row.{Row}
use Rattle.tf_model.specs.declared.entry.Row.TheVariants as row
use Rattle.tf_model.specs.Order.{key_cmp, value_cmp}
use Rattle.tf_model.specs.Query.{meets}
use Rattle.tf_model.specs.Values.{value_of}
use Rattle.tf_model.specs.Keys.{key_of, keys_of, floor_to}
use Rattle.tf_model.specs.Retention.{retained}
use Rattle.tf_model.specs.Bounds.{aligned}
use Rattle.tf_model.specs.Latest.{age_cmp, place_cmp, sort_cmp}
use Rattle.tf_model.proofs.QueryLaws.{meets_all}
use Rattle.tf_history.specs.Meaning.{Meaning}
use Rattle.tf_history.specs.Events.{Deed, Event}
use Rattle.tf_history.specs.Events.Deed.{Index, Write, Put, Start, Stopped, Begin, Page, Finish, Fail, StopAsked}
use Rattle.tf_history.specs.Grouping.{scratch}
use Rattle.tf_history.specs.Configured.{meaning}
use Rattle.tf_history.specs.Lives.{Life, cutoff, documents, life, written}
use Rattle.tf_history.specs.Legality.{IsLegal, moves_left, next_move}
use Rattle.tf_history.specs.Legality.{IsAllowed}
use Rattle.tf_history.specs.Histories.{past_of, life_of, AllRight}
use Rattle.tf_history.specs.Catalogue.{ValuesOf}
use Rattle.tf_history.specs.Reading.{events}
use Rattle.tf_history.specs.LegalEntries.{Reading, IsLegalPast}
use Rattle.tf_model.specs.declared.entry.Entry.{Entry}
use Rattle.tf_model.specs.declared.entry.Kind.{Kind}
use Rattle.tf_model.specs.declared.entry.Kind.TheVariants as kind
use Rattle.tf_model.specs.declared.query.Mapping.{Mapping}
use Rattle.tf_model.specs.declared.query.FieldType.TheVariants as field_type

-- a continuous pivot by customer whose Pages have one row
abbrev by_customer : Agg → Option Retention → Config
by_customer agg retention = record {
  sources = codes "orders" ∷ [];
  query = query.MatchAll;
  dest = codes "customers";
  shape = shape.Pivot (record { name = codes "customer"; field = codes "customer"; kind = Terms; missing_bucket = false } ∷ []) (agg ∷ []);
  sync = Some (record { field = codes "ts"; delay_ms = pos 1 });
  retention = retention;
  frequency_ms = pos 1;
  page_size = 1;
  align = true;
  epoch_millis = false;
  description = [];
}

-- its meaning, and the same with the test of the query in its computed form
abbrev real : Agg → Option Retention → Meaning
real agg retention = meaning (0 ∷ []) (by_customer agg retention)

abbrev plain : Agg → Option Retention → Meaning
plain agg retention = record (real agg retention) { matches = λ d. true }

plain_is : (agg : Agg) (retention : Option Retention) → plain agg retention ≡ real agg retention
plain_is agg retention = λ i. record (real agg retention) { matches = λ d. sym (meets_all d) i }

-- the meaning of a configuration over numbered sources, and the same without the test of the query
abbrev meant : List ℕ → Config → Meaning
meant sources c = meaning sources c

abbrev untested : List ℕ → Config → Meaning
untested sources c = record (meant sources c) { matches = λ d. true }

untested_is : (sources : List ℕ) (c : Config) → c.query ≡ query.MatchAll → untested sources c ≡ meant sources c
untested_is sources c e = λ i. record (meant sources c) { matches = λ d. sym (ap (meets d) e ∙ meets_all d) i }

abbrev document : ℕ → ℕ → ℕ → ℕ → Doc
document seq customer cents ts = record {
  index = 0;
  shard = 0;
  seq = seq;
  id = seq ∷ [];
  tree = tree.Null;
  values = (codes "cents", value.Int (pos cents)) ∷ (codes "customer", value.Str (customer ∷ [])) ∷ (codes "ts", value.Date (pos ts)) ∷ [];
}

abbrev row_with : ℕ → Value → Row
row_with customer v = row.Pivot (record { parts = value.Str (customer ∷ []) ∷ [] }) (v ∷ [])

abbrev at : ℕ → Deed → Event
at m deed = record { moment = pos m; deed = deed }

abbrev t : List ℕ
t = codes "t"

-- ---- sums
abbrev total : Agg
total = record { name = codes "total"; field = codes "cents"; kind = Sum }

abbrev sum_row : ℕ → ℕ → Row
sum_row customer cents = row_with customer (value.Int (pos cents))

abbrev first_checkpoint : Meaning → List Event
first_checkpoint c =
    at 0 Index ∷ at 0 (Put t c) ∷ at 1 (Write (document 0 2 10 1)) ∷ at 2 (Write (document 1 1 20 2)) ∷ at 2 (Start t)
    ∷ at 4 (Begin t 1 (Some (pos 3))) ∷ at 4 (Write (document 2 1 5 3)) ∷ at 4 (Page t 1 (sum_row 1 20 ∷ []))
    ∷ at 4 (StopAsked t false) ∷ at 4 (Stopped t) ∷ at 4 (Start t) ∷ at 4 (Page t 1 (sum_row 2 10 ∷ [])) ∷ at 4 (Finish t 1) ∷ []

abbrev second_checkpoint : List Event
second_checkpoint = at 6 (Page t 2 (sum_row 1 25 ∷ [])) ∷ at 6 (Finish t 2) ∷ []

abbrev history : Meaning → List Event
history c = first_checkpoint c ++ at 6 (Begin t 2 (Some (pos 5))) ∷ second_checkpoint

-- the same with a document of customer 2 whose moment is below the second bound, written after its Begin
abbrev late_history : Meaning → List Event
late_history c = first_checkpoint c ++ at 6 (Begin t 2 (Some (pos 5))) ∷ at 6 (Write (document 3 2 7 4)) ∷ second_checkpoint

abbrev sums : Meaning
sums = real total None

-- what a life shows, nothing where there is none
abbrev rows_of : Option Life → List Row
rows_of None = []
rows_of (Some l) = l.rows

abbrev late_of : Option Life → Option ℕ
late_of o = option_map (λ (l : Life). l.late) o

abbrev from_plain : {X : Type 0} (f : Meaning → X) (x : X) → f (plain total None) ≡ x → f sums ≡ x
from_plain f x e = ap f (sym (plain_is total None)) ∙ e

rows_at_the_end : rows_of (life_of t (history sums)) ≡ sum_row 1 25 ∷ sum_row 2 10 ∷ []
unfolding key_cmp value_cmp value_of keys_of key_of floor_to aligned retained
rows_at_the_end = from_plain (λ c. rows_of (life_of t (history c))) _ refl

-- how many moves are left at most after so many entries, at a moment
abbrev left_after : ℕ → ℕ → Meaning → Option ℕ
left_after k m c = let past = past_of (take k (history c)) in option_map (λ l. moves_left l (documents past) (pos m)) (life t past)

-- before the first checkpoint: its Begin, two Pages, its Finish and a Stopped
all_is_left : left_after 5 4 sums ≡ Some 5
unfolding key_cmp value_cmp value_of keys_of key_of floor_to aligned retained
all_is_left = from_plain (λ c. left_after 5 4 c) _ refl

-- after its first Page, at its own moment: a Page, the Finish and a Stopped, for the document at the bound waits
rest_is_left : left_after 8 4 sums ≡ Some 3
unfolding key_cmp value_cmp value_of keys_of key_of floor_to aligned retained
rest_is_left = from_plain (λ c. left_after 8 4 c) _ refl

-- at the moment of the second checkpoint that one follows: a Begin, a Page, a Finish and a Stopped
next_is_left_too : left_after 8 6 sums ≡ Some 7
unfolding key_cmp value_cmp value_of keys_of key_of floor_to aligned retained
next_is_left_too = from_plain (λ c. left_after 8 6 c) _ refl

-- at the end there is none
none_is_left : left_after 17 6 sums ≡ Some 0
unfolding key_cmp value_cmp value_of keys_of key_of floor_to aligned retained
none_is_left = from_plain (λ c. left_after 17 6 c) _ refl

none_is_late : late_of (life_of t (history sums)) ≡ Some 0
unfolding key_cmp value_cmp value_of keys_of key_of floor_to aligned retained
none_is_late = from_plain (λ c. late_of (life_of t (history c))) _ refl

rows_are_scratch : scratch sums (Some (pos 5)) None (written sums (past_of (history sums))) ≡ sum_row 1 25 ∷ sum_row 2 10 ∷ []
unfolding key_cmp value_cmp value_of keys_of key_of floor_to aligned retained
rows_are_scratch = from_plain (λ c. scratch c (Some (pos 5)) None (written c (past_of (history c)))) _ refl

one_is_late : late_of (life_of t (late_history sums)) ≡ Some 1
unfolding key_cmp value_cmp value_of keys_of key_of floor_to aligned retained
one_is_late = from_plain (λ c. late_of (life_of t (late_history c))) _ refl

late_cents_are_missed : rows_of (life_of t (late_history sums)) ≡ sum_row 1 25 ∷ sum_row 2 10 ∷ []
unfolding key_cmp value_cmp value_of keys_of key_of floor_to aligned retained
late_cents_are_missed = from_plain (λ c. rows_of (life_of t (late_history c))) _ refl

late_cents_are_in_scratch : scratch sums (Some (pos 5)) None (written sums (past_of (late_history sums))) ≡ sum_row 1 25 ∷ sum_row 2 17 ∷ []
unfolding key_cmp value_cmp value_of keys_of key_of floor_to aligned retained
late_cents_are_in_scratch = from_plain (λ c. scratch c (Some (pos 5)) None (written c (past_of (late_history c)))) _ refl

abbrev plain_sums : Meaning
plain_sums = plain total None

legal_plain : IsLegal (past_of (history plain_sums))
unfolding key_cmp value_cmp value_of keys_of key_of floor_to aligned retained IsStrictlySortedBy
legal_plain = (
  (
    (
      (
        (
          (
            (
              (
                (
                  (
                    (
                      (((((tt, tt, tt), refl, omega (arith, ints)), tt, omega (arith, ints)), tt, omega (arith, ints)), refl, omega (arith, ints)),
                      record { started = refl; idle = refl; due = refl; number = refl; bound_is = refl },
                      omega (arith, ints),
                    ),
                    tt,
                    omega (arith, ints),
                  ),
                  record { running = (refl, refl); active = refl; some = omega arith; fits = omega arith; ascending = (tt, tt); above = refl },
                  omega (arith, ints),
                ),
                refl,
                omega (arith, ints),
              ),
              refl,
              omega (arith, ints),
            ),
            refl,
            omega (arith, ints),
          ),
          record { running = (refl, refl); active = refl; some = omega arith; fits = omega arith; ascending = (tt, tt); above = refl },
          omega (arith, ints),
        ),
        record { running = (refl, refl); active = refl; nothing_left = refl },
        omega (arith, ints),
      ),
      record { started = refl; idle = refl; due = refl; number = refl; bound_is = refl },
      omega (arith, ints),
    ),
    record { running = (refl, refl); active = refl; some = omega arith; fits = omega arith; ascending = (tt, tt); above = refl },
    omega (arith, ints),
  ),
  record { running = (refl, refl); active = refl; nothing_left = refl },
  omega (arith, ints),
)

history_is_legal : IsLegal (past_of (history sums))
history_is_legal = subst (λ c. IsLegal (past_of (history c))) (plain_is total None) legal_plain

right_plain : AllRight 0 (past_of (history plain_sums))
unfolding key_cmp value_cmp value_of keys_of key_of floor_to aligned retained
right_plain =
    ((((((((((((((((tt, λ _. tt), λ _. tt), λ _. tt), λ _. tt), λ _. tt), λ _. tt), λ _. tt), λ _. record { some = omega arith; same = refl }), λ _. tt), λ _. tt), λ _. tt), λ _. record { some = omega arith; same = refl }), λ _. tt), λ _. tt), λ _. record { some = omega arith; same = refl }), λ _. tt)

pages_are_right : AllRight 0 (past_of (history sums))
pages_are_right = subst (λ c. AllRight 0 (past_of (history c))) (plain_is total None) right_plain

-- what the indexer would make after the first k entries
abbrev move_after : ℕ → ℕ → Meaning → Option Deed
move_after k m c = next_move t (past_of (take k (history c))) (pos m)

begins_the_first : move_after 5 4 sums ≡ Some (Begin t 1 (Some (pos 3)))
unfolding key_cmp value_cmp value_of keys_of key_of floor_to aligned retained
begins_the_first = from_plain (move_after 5 4) _ refl

least_key_comes_first : move_after 7 4 sums ≡ Some (Page t 1 (sum_row 1 20 ∷ []))
unfolding key_cmp value_cmp value_of keys_of key_of floor_to aligned retained
least_key_comes_first = from_plain (move_after 7 4) _ refl

stops_when_asked : move_after 9 4 sums ≡ Some (Stopped t)
unfolding key_cmp value_cmp value_of keys_of key_of floor_to aligned retained
stops_when_asked = from_plain (move_after 9 4) _ refl

nothing_while_stopped : move_after 10 4 sums ≡ None
unfolding key_cmp value_cmp value_of keys_of key_of floor_to aligned retained
nothing_while_stopped = from_plain (move_after 10 4) _ refl

goes_on_above_the_position : move_after 11 4 sums ≡ Some (Page t 1 (sum_row 2 10 ∷ []))
unfolding key_cmp value_cmp value_of keys_of key_of floor_to aligned retained
goes_on_above_the_position = from_plain (move_after 11 4) _ refl

finishes_after_the_last_key : move_after 12 4 sums ≡ Some (Finish t 1)
unfolding key_cmp value_cmp value_of keys_of key_of floor_to aligned retained
finishes_after_the_last_key = from_plain (move_after 12 4) _ refl

waits_for_a_document_below_the_bound : move_after 13 4 sums ≡ None
unfolding key_cmp value_cmp value_of keys_of key_of floor_to aligned retained
waits_for_a_document_below_the_bound = from_plain (move_after 13 4) _ refl

begins_the_second : move_after 13 5 sums ≡ Some (Begin t 2 (Some (pos 4)))
unfolding key_cmp value_cmp value_of keys_of key_of floor_to aligned retained
begins_the_second = from_plain (move_after 13 5) _ refl

only_the_changed_key_is_written : move_after 14 6 sums ≡ Some (Page t 2 (sum_row 1 25 ∷ []))
unfolding key_cmp value_cmp value_of keys_of key_of floor_to aligned retained
only_the_changed_key_is_written = from_plain (move_after 14 6) _ refl

nothing_new : move_after 16 9 sums ≡ None
unfolding key_cmp value_cmp value_of keys_of key_of floor_to aligned retained
nothing_new = from_plain (move_after 16 9) _ refl

-- ---- ages: a row whose greatest moment is below the cutoff is taken out
abbrev last : Agg
last = record { name = codes "last"; field = codes "ts"; kind = Max }

abbrev two_ms : Option Retention
two_ms = Some (record { field = codes "last"; max_age_ms = pos 2 })

abbrev aged : Meaning
aged = real last two_ms

abbrev last_row : ℕ → ℕ → Row
last_row customer ms = row_with customer (value.Date (pos ms))

abbrev aged_history : Meaning → List Event
aged_history c =
    at 0 Index ∷ at 0 (Put t c) ∷ at 1 (Write (document 0 1 10 1)) ∷ at 1 (Start t) ∷ at 3 (Begin t 1 (Some (pos 2))) ∷ at 3 (Page t 1 (last_row 1 1 ∷ [])) ∷ at 3 (Finish t 1)
    ∷ at 5 (Write (document 1 2 20 4)) ∷ at 6 (Begin t 2 (Some (pos 5))) ∷ at 6 (Page t 2 (last_row 2 4 ∷ [])) ∷ at 6 (Finish t 2) ∷ []

row_is_taken_out : rows_of (life_of t (aged_history aged)) ≡ last_row 2 4 ∷ []
unfolding key_cmp value_cmp value_of keys_of key_of floor_to aligned retained
row_is_taken_out = ap (λ c. rows_of (life_of t (aged_history c))) (sym (plain_is last two_ms)) ∙ refl

both_were_there : rows_of (life_of t (take 10 (aged_history aged))) ≡ last_row 1 1 ∷ last_row 2 4 ∷ []
unfolding key_cmp value_cmp value_of keys_of key_of floor_to aligned retained
both_were_there = ap (λ c. rows_of (life_of t (take 10 (aged_history c)))) (sym (plain_is last two_ms)) ∙ refl

one_is_counted_as_deleted : option_map (λ (l : Life). l.deleted) (life_of t (aged_history aged)) ≡ Some 1
unfolding key_cmp value_cmp value_of keys_of key_of floor_to aligned retained
one_is_counted_as_deleted = ap (λ c. option_map (λ (l : Life). l.deleted) (life_of t (aged_history c))) (sym (plain_is last two_ms)) ∙ refl

-- a batch transform of the same: a row whose value is missing stays, and so does one at the cutoff, which is that of the Begin
abbrev once_aged : Config
once_aged = record (by_customer last two_ms) { sync = None; page_size = 10 }

abbrev undated : ℕ → ℕ → Doc
undated seq customer = record {
  index = 0;
  shard = 0;
  seq = seq;
  id = seq ∷ [];
  tree = tree.Null;
  values = (codes "customer", value.Str (customer ∷ [])) ∷ [];
}

abbrev once_aged_history : Meaning → List Event
once_aged_history c =
    at 0 Index ∷ at 0 (Put t c) ∷ at 1 (Write (document 0 1 10 3)) ∷ at 1 (Write (undated 1 2)) ∷ at 1 (Write (document 2 3 10 4)) ∷ at 1 (Start t)
    ∷ at 6 (Begin t 1 None) ∷ at 9 (Page t 1 (last_row 1 3 ∷ row_with 2 value.Null ∷ last_row 3 4 ∷ [])) ∷ at 9 (Finish t 1) ∷ []

missing_and_new_enough_rows_stay : rows_of (life_of t (once_aged_history (meant (0 ∷ []) once_aged))) ≡ row_with 2 value.Null ∷ last_row 3 4 ∷ []
unfolding key_cmp value_cmp value_of keys_of key_of floor_to aligned retained
missing_and_new_enough_rows_stay = ap (λ c. rows_of (life_of t (once_aged_history c))) (sym (untested_is (0 ∷ []) once_aged refl)) ∙ refl

page_shows_what_is_missing : next_move t (past_of (take 7 (once_aged_history (meant (0 ∷ []) once_aged)))) (pos 9) ≡ Some (Page t 1 (last_row 1 3 ∷ row_with 2 value.Null ∷ last_row 3 4 ∷ []))
unfolding key_cmp value_cmp value_of keys_of key_of floor_to aligned retained
page_shows_what_is_missing = ap (λ c. next_move t (past_of (take 7 (once_aged_history c))) (pos 9)) (sym (untested_is (0 ∷ []) once_aged refl)) ∙ refl

-- of two checkpoints the second at a moment before the first
cutoff_never_falls :
    cutoff aged (record { bound = Some (pos 5); moment = pos 6; read = []; late = 0 } ∷ record { bound = Some (pos 9); moment = pos 10; read = []; late = 0 } ∷ []) ≡ Some (pos 8)
cutoff_never_falls = refl

-- ---- sums outside i64: of three customers two have one
abbrev by_ten : Config
by_ten = record (by_customer total None) { page_size = 10 }

abbrev wide_documents : List Doc
wide_documents =
    document 0 3 9223372036854775807 1 ∷ document 1 2 9223372036854775807 1 ∷ document 2 1 5 1 ∷ document 3 2 1 1 ∷ document 4 3 2 1 ∷ []

abbrev wide_history : Meaning → List Event
wide_history c = at 0 Index ∷ at 0 (Put t c) ∷ map (λ d. at 1 (Write d)) wide_documents ++ at 2 (Start t) ∷ at 4 (Begin t 1 (Some (pos 3))) ∷ []

abbrev customer_2 : Key
customer_2 = record { parts = value.Str (2 ∷ []) ∷ [] }

-- it names the least key that has no row, and its sum
abbrev the_fail : Deed
the_fail = Fail t 1 customer_2 (codes "total") (pos 9223372036854775808)

abbrev failed_history : Meaning → List Event
failed_history c = wide_history c ++ at 4 the_fail ∷ []

abbrev from_untested : {X : Type 0} (f : Meaning → X) (x : X) → f (untested (0 ∷ []) by_ten) ≡ x → f (meant (0 ∷ []) by_ten) ≡ x
from_untested f x e = ap f (sym (untested_is (0 ∷ []) by_ten refl)) ∙ e

least_failing_key_is_told : next_move t (past_of (wide_history (meant (0 ∷ []) by_ten))) (pos 4) ≡ Some the_fail
unfolding key_cmp value_cmp value_of keys_of key_of floor_to aligned retained
least_failing_key_is_told = from_untested (λ c. next_move t (past_of (wide_history c)) (pos 4)) _ refl

-- with Pages of one row the key below it is written first
keys_before_it_are_written : next_move t (past_of (wide_history sums)) (pos 4) ≡ Some (Page t 1 (sum_row 1 5 ∷ []))
unfolding key_cmp value_cmp value_of keys_of key_of floor_to aligned retained
keys_before_it_are_written = from_plain (λ c. next_move t (past_of (wide_history c)) (pos 4)) _ refl

fail_allowed : IsAllowed (pos 4) the_fail (past_of (wide_history (untested (0 ∷ []) by_ten)))
unfolding key_cmp value_cmp value_of keys_of key_of floor_to aligned retained
fail_allowed = record { running = (refl, refl); active = refl; first = refl; tells = refl }

it_is_failed : option_map (λ (l : Life). l.state) (life_of t (failed_history (meant (0 ∷ []) by_ten))) ≡ Some state.Failed
unfolding key_cmp value_cmp value_of keys_of key_of floor_to aligned retained
it_is_failed = from_untested (λ c. option_map (λ (l : Life). l.state) (life_of t (failed_history c))) _ refl

its_reason_is_kept :
    option_map (λ (l : Life). l.reason) (life_of t (failed_history (meant (0 ∷ []) by_ten))) ≡ Some (Some (record { key = customer_2; name = codes "total"; value = pos 9223372036854775808 }))
unfolding key_cmp value_cmp value_of keys_of key_of floor_to aligned retained
its_reason_is_kept = from_untested (λ c. option_map (λ (l : Life). l.reason) (life_of t (failed_history c))) _ refl

it_has_no_rows : rows_of (life_of t (failed_history (meant (0 ∷ []) by_ten))) ≡ []
unfolding key_cmp value_cmp value_of keys_of key_of floor_to aligned retained
it_has_no_rows = from_untested (λ c. rows_of (life_of t (failed_history c))) _ refl

nothing_while_failed : next_move t (past_of (failed_history (meant (0 ∷ []) by_ten))) (pos 9) ≡ None
unfolding key_cmp value_cmp value_of keys_of key_of floor_to aligned retained
nothing_while_failed = from_untested (λ c. next_move t (past_of (failed_history c)) (pos 9)) _ refl

-- ---- a latest by customer, sorted by cents, over the indices 1 and 0 in this order
abbrev newest_by_customer : Config
newest_by_customer = record (by_customer total None) { sources = codes "later" ∷ codes "orders" ∷ []; shape = shape.Latest (codes "customer" ∷ []) (codes "cents") }

-- a document of customer 1 in a shard of an index
abbrev placed : ℕ → ℕ → ℕ → ℕ → Doc
placed index shard seq cents = record (document seq 1 cents 1) { index = index; shard = shard }

abbrev latest_history : List Doc → Meaning → List Event
latest_history docs c =
    at 0 Index ∷ at 0 Index ∷ at 0 (Put t c) ∷ map (λ d. at 1 (Write d)) docs ++ at 2 (Start t) ∷ at 4 (Begin t 1 (Some (pos 3))) ∷ []

-- what the indexer makes of documents
abbrev made_of : List Doc → Meaning → Option Deed
made_of docs c = next_move t (past_of (latest_history docs c)) (pos 4)

-- the Page of one row that names a document
abbrev names_it : ℕ → ℕ → ℕ → Option Deed
names_it index shard seq = Some (Page t 1 (row.Latest (record { parts = value.Str (1 ∷ []) ∷ [] }) index shard seq ∷ []))

abbrev from_latest : (docs : List Doc) (made : Option Deed) → made_of docs (untested (1 ∷ 0 ∷ []) newest_by_customer) ≡ made → made_of docs (meant (1 ∷ 0 ∷ []) newest_by_customer) ≡ made
from_latest docs made e = ap (made_of docs) (sym (untested_is (1 ∷ 0 ∷ []) newest_by_customer refl)) ∙ e

greatest_sort_value_wins_over_a_later_arrival :
    made_of (placed 0 0 0 20 ∷ placed 0 0 1 10 ∷ []) (meant (1 ∷ 0 ∷ []) newest_by_customer) ≡ names_it 0 0 0
unfolding key_cmp value_cmp value_of keys_of key_of floor_to aligned retained age_cmp place_cmp sort_cmp
greatest_sort_value_wins_over_a_later_arrival = from_latest (placed 0 0 0 20 ∷ placed 0 0 1 10 ∷ []) (names_it 0 0 0) refl

later_source_wins_a_tie : made_of (placed 0 0 0 20 ∷ placed 1 3 7 20 ∷ []) (meant (1 ∷ 0 ∷ []) newest_by_customer) ≡ names_it 0 0 0
unfolding key_cmp value_cmp value_of keys_of key_of floor_to aligned retained age_cmp place_cmp sort_cmp
later_source_wins_a_tie = from_latest (placed 0 0 0 20 ∷ placed 1 3 7 20 ∷ []) (names_it 0 0 0) refl

greater_shard_wins_a_tie : made_of (placed 0 1 0 20 ∷ placed 0 0 7 20 ∷ []) (meant (1 ∷ 0 ∷ []) newest_by_customer) ≡ names_it 0 1 0
unfolding key_cmp value_cmp value_of keys_of key_of floor_to aligned retained age_cmp place_cmp sort_cmp
greater_shard_wins_a_tie = from_latest (placed 0 1 0 20 ∷ placed 0 0 7 20 ∷ []) (names_it 0 1 0) refl

greater_number_wins_a_tie : made_of (placed 0 1 1 20 ∷ placed 0 1 0 20 ∷ []) (meant (1 ∷ 0 ∷ []) newest_by_customer) ≡ names_it 0 1 1
unfolding key_cmp value_cmp value_of keys_of key_of floor_to aligned retained age_cmp place_cmp sort_cmp
greater_number_wins_a_tie = from_latest (placed 0 1 1 20 ∷ placed 0 1 0 20 ∷ []) (names_it 0 1 1) refl

-- ---- entries: a whole legal history of one index, one transform and one document
abbrev reads : ValuesOf
reads mapping stamp tree = (document 0 1 10 1).values

abbrev plainly : Reading
plainly = record {
  values_of = reads;
  is_id = λ id. true;
  is_name = λ name. true;
  is_field = λ field. true;
  shard_of = λ id shards. 0;
  is_config = λ indices c. true;
  is_read = λ s moment tree. true;
}

abbrev entry : ℕ → ℕ → Kind → Entry
entry moment actor k = record { at_ms = pos moment; actor = actor; kind = k }

abbrev orders_mapping : Mapping
orders_mapping = record { fields = (codes "cents", field_type.Long) ∷ (codes "customer", field_type.Keyword) ∷ (codes "ts", field_type.Date) ∷ [] }

-- newest first
abbrev entries : List Entry
entries =
    entry 3 8 (kind.Finish t 1) ∷ entry 3 8 (kind.Page t 1 (sum_row 1 10 ∷ [])) ∷ entry 3 8 (kind.Begin t 1 (Some (pos 2))) ∷ entry 1 0 (kind.Start t)
    ∷ entry 1 0 (kind.Write 0 0 0 (0 ∷ []) tree.Null) ∷ entry 0 0 (kind.Put t (by_customer total None)) ∷ entry 0 0 (kind.Index (codes "orders") 1 orders_mapping None false) ∷ []

-- the same as events
abbrev told : Meaning → List Event
told c =
    at 3 (Finish t 1) ∷ at 3 (Page t 1 (sum_row 1 10 ∷ [])) ∷ at 3 (Begin t 1 (Some (pos 2))) ∷ at 1 (Start t)
    ∷ at 1 (Write (document 0 1 10 1)) ∷ at 0 (Put t c) ∷ at 0 Index ∷ []

entries_tell : events reads entries ≡ told sums
entries_tell = refl

-- what is allowed where the query asks nothing is allowed where it matches all
allowed_from_plain : (k m : ℕ) (deed : Deed) → IsAllowed (pos m) deed (drop k (told plain_sums)) → IsAllowed (pos m) deed (drop k (told sums))
allowed_from_plain k m deed h = subst (λ c. IsAllowed (pos m) deed (drop k (told c))) (plain_is total None) h

begin_allowed : IsAllowed (pos 3) (Begin t 1 (Some (pos 2))) (drop 3 (told plain_sums))
unfolding key_cmp value_cmp value_of keys_of key_of floor_to aligned retained
begin_allowed = record { started = refl; idle = refl; due = refl; number = refl; bound_is = refl }

page_allowed : IsAllowed (pos 3) (Page t 1 (sum_row 1 10 ∷ [])) (drop 2 (told plain_sums))
unfolding key_cmp value_cmp value_of keys_of key_of floor_to aligned retained IsStrictlySortedBy
page_allowed = record { running = (refl, refl); active = refl; some = omega arith; fits = omega arith; ascending = (tt, tt); above = refl }

finish_allowed : IsAllowed (pos 3) (Finish t 1) (drop 1 (told plain_sums))
unfolding key_cmp value_cmp value_of keys_of key_of floor_to aligned retained
finish_allowed = record { running = (refl, refl); active = refl; nothing_left = refl }

index_legal : IsLegalPast plainly (drop 6 entries)
unfolding IsStrictlySortedBy
index_legal = (
  tt,
  record {
    moment = (omega (arith, ints), omega (arith, ints));
    later = tt;
    actor = omega arith;
    fits = record { well_formed = refl; free = refl; few = omega arith; shards = (omega arith, omega arith); fields = omega arith; field_names = refl; ascending = ((refl, (refl, tt)), ((refl, tt), (tt, tt))); stamp = tt; slow = refl };
    allowed = tt;
  },
)

put_legal : IsLegalPast plainly (drop 5 entries)
put_legal = (
  index_legal,
  record {
    moment = (omega (arith, ints), omega (arith, ints));
    later = omega (arith, ints);
    actor = omega arith;
    fits = record { well_formed = refl; few = omega arith; checked = refl; dest_free = refl };
    allowed = refl;
  },
)

write_legal : IsLegalPast plainly (drop 4 entries)
write_legal = (
  put_legal,
  record {
    moment = (omega (arith, ints), omega (arith, ints));
    later = omega (arith, ints);
    actor = omega arith;
    fits = record { routed = refl; next = refl; room = omega arith; id_size = (omega arith, omega arith); id_new = refl; read = refl };
    allowed = tt;
  },
)

start_legal : IsLegalPast plainly (drop 3 entries)
start_legal = (write_legal, record { moment = (omega (arith, ints), omega (arith, ints)); later = omega (arith, ints); actor = omega arith; fits = tt; allowed = refl })

begin_legal : IsLegalPast plainly (drop 2 entries)
begin_legal = (
  start_legal,
  record {
    moment = (omega (arith, ints), omega (arith, ints));
    later = omega (arith, ints);
    actor = omega arith;
    fits = tt;
    allowed = allowed_from_plain 3 3 (Begin t 1 (Some (pos 2))) begin_allowed;
  },
)

page_legal : IsLegalPast plainly (drop 1 entries)
page_legal = (
  begin_legal,
  record {
    moment = (omega (arith, ints), omega (arith, ints));
    later = omega (arith, ints);
    actor = omega arith;
    fits = (record { parts = refl; part_dates = (tt, tt); values_are = refl; fits = ((omega (arith, ints), omega (arith, ints)), tt) }, tt);
    allowed = allowed_from_plain 2 3 (Page t 1 (sum_row 1 10 ∷ [])) page_allowed;
  },
)

entries_are_legal : IsLegalPast plainly entries
entries_are_legal = (
  page_legal,
  record {
    moment = (omega (arith, ints), omega (arith, ints));
    later = omega (arith, ints);
    actor = omega arith;
    fits = tt;
    allowed = allowed_from_plain 1 3 (Finish t 1) finish_allowed;
  },
)
