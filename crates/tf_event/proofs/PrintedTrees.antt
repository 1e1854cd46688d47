-- The parts of a printed tree, as they are read.
use Rattle.std.proofs.Common.{◌≡◌, ◌≢◌, ℕ, zero, suc, ℤ, ◌+◌, ◌-◌, ◌*◌, ◌/◌, ◌%◌, ◌^◌, ◌<◌, ◌≤◌, List, [], ◌∷◌, ◌++◌, flat_map, map, length, take, drop, get_or, drop-cons, add-one, slice_get, Bool, true, false, cond, Option, Some, None, nat_lt, is_lt, IsTrue, IsUtf8, refl, sym, ap, ap₂, subst, ◌∙◌, arith, append_assoc, append-nil}
use Rattle.std.proofs.lemmas.Bool.{false≢true}
use Rattle.std.proofs.lemmas.Bool.Decides.{nat_tests}
use Rattle.std.proofs.lemmas.Fmt.{decimal_step, decimal_digit}
use Rattle.std.proofs.lemmas.Grind.{flat_map-append}
use Rattle.std.proofs.lemmas.List.{take_more}
use Rattle.std.proofs.lemmas.Option.{slice_get_within}
use Rattle.std.specs.Option.{unwrap_or, option_map}
use Rattle.std.proofs.lemmas.Cmp.{nat_list_cmp_total}
use Rattle.std.specs.Char.{digit_char}
use Rattle.std.specs.Fmt.{decimal, signed_decimal}
use Rattle.std.specs.List.{AllByRecursion}
use Rattle.std.specs.Ordering.{nat_cmp}
use Rattle.std.specs.Cmp.Lexicographic.{slice_cmp}
use Rattle.std.specs.declared.cmp.Ordering.{Ordering}
use Rattle.std.specs.declared.cmp.Ordering.TheVariants.{Less, Equal, Greater}
use Rattle.tf_model.specs.declared.tree.Tree.{Tree, out-Tree, roll-Tree, out-roll-Tree, fold-roll-Tree}
use Rattle.tf_model.specs.declared.tree.Tree.TheOpen.{Tree-F}
use Rattle.tf_model.specs.declared.tree.Tree.TheVariants as t
use Rattle.std.proofs.lemmas.Slice.Eq.{bytes_eq-Decides}
use Rattle.tf_json.specs.Reading.{tree as read_as, reading}
use Rattle.tf_event.specs.Trees.{if_printed, tree_in}
use Rattle.tf_model.specs.Lines.{IsLeaf, IsLevel, IsLineWithin, IsWhole, NamesAscend, IsBelow}
use Rattle.tf_model.specs.Print.{escape_letter, escaped, quoted, listed, paired, printed, text_step, printed_member}

-- ---- escapes

pub plain_byte : (x : ℕ) → 32 ≤ x → x ≢ 34 → x ≢ 92 → escaped x ≡ x ∷ []
unfolding escaped
plain_byte x low quote slash = grind (arith, nat_tests)

pub control_byte : (x high low : ℕ) → x < 32 → nat_lt 0 (escape_letter x) ≡ false → digit_char (x / 16) ≡ high → digit_char (x % 16) ≡ low
    → escaped x ≡ 92 ∷ 117 ∷ 48 ∷ 48 ∷ high ∷ low ∷ []
unfolding escaped
control_byte x high low small none a b =
    rw none (grind (arith, nat_tests, a, b))

pub ruleset escapes = (plain_byte, control_byte)

-- ---- strings

-- one more plain byte
pub plain_more : (text : List ℕ) (i x : ℕ) → i < length text → x ≡ get_or text i x → flat_map escaped (take i text) ≡ take i text → escaped x ≡ x ∷ []
    → flat_map escaped (take (i + 1) text) ≡ take (i + 1) text
plain_more text i x lt is so_far plain =
    let more : take (i + 1) text ≡ take i text ++ x ∷ [] = take_more text i x lt ∙ ap (λ y. take i text ++ y ∷ []) (sym is) in
    ap (flat_map escaped) more ∙ flat_map-append escaped (take i text) (x ∷ []) ∙ ap₂ (λ (a b : List ℕ). a ++ b) so_far (append-nil (escaped x) ∙ plain) ∙ sym more

-- a string with no escapes, to its closing quote
pub plain_string : (text plain rest after : List ℕ) → text ≡ plain ++ rest → flat_map escaped plain ≡ plain → rest ≡ 34 ∷ after → 34 ∷ text ≡ quoted plain ++ after
plain_string text plain rest after parts same is =
    ap (λ (s : List ℕ). 34 ∷ s) (parts ∙ ap₂ (λ (a b : List ℕ). a ++ b) (sym same) is ∙ sym (append_assoc (flat_map escaped plain) (34 ∷ []) after))

-- one more byte of a string
pub escaped_next : (text bytes grown rest after : List ℕ) (x : ℕ) → text ≡ flat_map escaped bytes ++ rest → rest ≡ escaped x ++ after → grown ≡ bytes ++ x ∷ []
    → text ≡ flat_map escaped grown ++ after
escaped_next text bytes grown rest after x so_far is push =
    so_far ∙ ap (λ (s : List ℕ). flat_map escaped bytes ++ s) (is ∙ ap (λ (s : List ℕ). s ++ after) (sym (append-nil (escaped x)))) ∙ sym (append_assoc (flat_map escaped bytes) _ after)
    ∙ ap (λ (s : List ℕ). s ++ after) (sym (flat_map-append escaped bytes (x ∷ [])) ∙ ap (flat_map escaped) (sym push))

-- ---- numbers

-- one more digit
pub digit_more : (n d : ℕ) → 0 < n → d < 10 → n * 10 + d < 2 ^ 64 → decimal (n * 10 + d) ≡ decimal n ++ (48 + d) ∷ []
digit_more n d some small fits =
    let front : (n * 10 + d) / 10 ≡ n = omega arith in
    let last : (n * 10 + d) % 10 ≡ d = omega arith in
    decimal_step (n * 10 + d) (omega arith) fits ∙ ap₂ (λ (a b : ℕ). decimal a ++ (48 + b) ∷ []) front last

pub digits_next : (begun text : List ℕ) (i n m : ℕ) → i < length text → 48 ≤ get_or text i 0 → get_or text i 0 ≤ 57 → 0 < n → m ≡ n * 10 + (get_or text i 0 - 48) → m < 2 ^ 64
    → begun ++ text ≡ decimal n ++ drop i text → begun ++ text ≡ decimal m ++ drop (i + 1) text
digits_next begun text i n m lt low high some longer fits so_far =
    let c : ℕ = get_or text i 0 in
    let is : 48 + (c - 48) ≡ c = omega arith in
    let now : drop i text ≡ c ∷ drop (i + 1) text = drop-cons text i 0 lt ∙ rw add-one in
    let more : decimal m ≡ decimal n ++ c ∷ [] = ap decimal longer ∙ digit_more n (c - 48) some (omega arith) (subst (λ k. k < 2 ^ 64) longer fits) ∙ ap (λ (k : ℕ). decimal n ++ k ∷ []) is in
    so_far ∙ ap (λ (s : List ℕ). decimal n ++ s) now ∙ sym (append_assoc (decimal n) (c ∷ []) (drop (i + 1) text)) ∙ ap (λ (s : List ℕ). s ++ drop (i + 1) text) (sym more)

pub natural_zero : (text rest : List ℕ) → text ≡ 48 ∷ rest → text ≡ decimal 0 ++ rest
natural_zero text rest is = is ∙ ap (λ (s : List ℕ). s ++ rest) (sym (decimal_digit 0 (omega arith)))

pub natural_digit : (text rest : List ℕ) (c : ℕ) → 49 ≤ c → c ≤ 57 → text ≡ c ∷ rest → text ≡ decimal (c - 48) ++ rest
natural_digit text rest c low high is =
    let same : 48 + (c - 48) ≡ c = omega arith in
    is ∙ ap (λ (s : List ℕ). s ++ rest) (sym (decimal_digit (c - 48) (omega arith) ∙ ap (λ (d : ℕ). d ∷ []) same))

pub ruleset numbers = (natural_zero, natural_digit)

-- ---- trees

pub printed_null : printed t.Null ≡ 110 ∷ 117 ∷ 108 ∷ 108 ∷ []
printed_null = ap printed (sym t.rolls-Null) ∙ fold-roll-Tree (List ℕ) text_step Tree-F.Null

pub printed_true : printed (t.Bool true) ≡ 116 ∷ 114 ∷ 117 ∷ 101 ∷ []
printed_true = ap printed (sym (t.rolls-Bool true)) ∙ fold-roll-Tree (List ℕ) text_step (Tree-F.Bool true)

pub printed_false : printed (t.Bool false) ≡ 102 ∷ 97 ∷ 108 ∷ 115 ∷ 101 ∷ []
printed_false = ap printed (sym (t.rolls-Bool false)) ∙ fold-roll-Tree (List ℕ) text_step (Tree-F.Bool false)

pub printed_number : (z : ℤ) → printed (t.Num z) ≡ signed_decimal z
printed_number z = ap printed (sym (t.rolls-Num z)) ∙ fold-roll-Tree (List ℕ) text_step (Tree-F.Num z)

pub printed_string : (s : List ℕ) → printed (t.Str s) ≡ quoted s
printed_string s = ap printed (sym (t.rolls-Str s)) ∙ fold-roll-Tree (List ℕ) text_step (Tree-F.Str s)

pub printed_array : (xs : List Tree) → printed (t.Arr xs) ≡ 91 ∷ listed false (map printed xs)
printed_array xs = ap printed (sym (t.rolls-Arr xs)) ∙ fold-roll-Tree (List ℕ) text_step (Tree-F.Arr xs)

pub printed_object : (ms : List (List ℕ × Tree)) → printed (t.Obj ms) ≡ 123 ∷ paired false (map printed_member ms)
printed_object ms = ap printed (sym (t.rolls-Obj ms)) ∙ fold-roll-Tree (List ℕ) text_step (Tree-F.Obj ms)

pub ruleset texts = (printed_null, printed_true, printed_false, printed_number, printed_string, printed_array, printed_object)

level : (P : Tree-F Tree → Type 0) (x : Tree-F Tree) (y : Tree) → roll-Tree x ≡ y → P x → P (out-Tree y)
level P x y is h = subst P (sym (out-roll-Tree x) ∙ ap out-Tree is) h

pub leaf_null : IsLeaf (out-Tree t.Null)
leaf_null = level IsLeaf Tree-F.Null t.Null t.rolls-Null tt

pub leaf_truth : (b : Bool) → IsLeaf (out-Tree (t.Bool b))
leaf_truth b = level IsLeaf (Tree-F.Bool b) (t.Bool b) (t.rolls-Bool b) tt

pub leaf_number : (z : ℤ) → IsWhole z → IsLeaf (out-Tree (t.Num z))
leaf_number z h = level IsLeaf (Tree-F.Num z) (t.Num z) (t.rolls-Num z) h

pub leaf_string : (s : List ℕ) → IsUtf8 s → IsLeaf (out-Tree (t.Str s))
leaf_string s h = level IsLeaf (Tree-F.Str s) (t.Str s) (t.rolls-Str s) h

pub ruleset leaves = (leaf_null, leaf_truth, leaf_number, leaf_string)

leaf_level : (Inner : Tree → Type 0) (x : Tree-F Tree) → IsLeaf x → IsLevel Inner x
leaf_level Inner Tree-F.Null h = tt
leaf_level Inner (Tree-F.Bool b) h = tt
leaf_level Inner (Tree-F.Num z) h = h
leaf_level Inner (Tree-F.Str s) h = h
leaf_level Inner (Tree-F.Arr xs) h = absurd h
leaf_level Inner (Tree-F.Obj ms) h = absurd h

pub leaf_within : (n : ℕ) (x : Tree) → IsLeaf (out-Tree x) → IsLineWithin n x
unfolding IsLineWithin
leaf_within zero x h = h
leaf_within (suc n) x h = leaf_level (IsLineWithin n) (out-Tree x) h

array_more : (n : ℕ) (xs : List Tree) → AllByRecursion (IsLineWithin n) xs → IsLineWithin (suc n) (t.Arr xs)
unfolding IsLineWithin
array_more n xs h = level (IsLevel (IsLineWithin n)) (Tree-F.Arr xs) (t.Arr xs) (t.rolls-Arr xs) h

pub array_within : (n : ℕ) (xs : List Tree) → 0 < n → AllByRecursion (IsLineWithin (n - 1)) xs → IsLineWithin n (t.Arr xs)
array_within n xs some h = let more : suc (n - 1) ≡ n = omega arith in subst (λ k. IsLineWithin k (t.Arr xs)) more (array_more (n - 1) xs h)

object_more : (n : ℕ) (ms : List (List ℕ × Tree)) → NamesAscend ms → AllByRecursion (λ m. IsUtf8 m.0 × IsLineWithin n m.1) ms → IsLineWithin (suc n) (t.Obj ms)
unfolding IsLineWithin
object_more n ms names h = level (IsLevel (IsLineWithin n)) (Tree-F.Obj ms) (t.Obj ms) (t.rolls-Obj ms) (names, h)

pub object_within : (n : ℕ) (ms : List (List ℕ × Tree)) → 0 < n → NamesAscend ms → AllByRecursion (λ m. IsUtf8 m.0 × IsLineWithin (n - 1) m.1) ms → IsLineWithin n (t.Obj ms)
object_within n ms some names h = let more : suc (n - 1) ≡ n = omega arith in subst (λ k. IsLineWithin k (t.Obj ms)) more (object_more (n - 1) ms names h)

pub ruleset within = (leaf_within, array_within, object_within)

-- ---- items and members

abbrev pub item_and_comma : Tree → List ℕ
item_and_comma x = printed x ++ 44 ∷ []

abbrev pub member_and_comma : List ℕ × Tree → List ℕ
member_and_comma m = quoted m.0 ++ 58 ∷ (printed m.1 ++ 44 ∷ [])

pub all_push : {A : Type 0} (P : A → Type 0) (xs : List A) (x : A) → AllByRecursion P xs → P x → AllByRecursion P (xs ++ x ∷ [])
all_push P [] x all h = (h, tt)
all_push P (y ∷ ys) x all h = (all.0, all_push P ys x all.1 h)

listed_later : (xs : List Tree) (x : Tree) → listed true (map printed (xs ++ x ∷ [])) ≡ 44 ∷ listed false (map printed (xs ++ x ∷ []))
listed_later [] x = refl
listed_later (y ∷ ys) x = refl

listed_push : (xs : List Tree) (x : Tree) → listed false (map printed (xs ++ x ∷ [])) ≡ flat_map item_and_comma xs ++ (printed x ++ 93 ∷ [])
listed_push [] x = refl
listed_push (y ∷ ys) x =
    ap (λ (s : List ℕ). printed y ++ s) (listed_later ys x ∙ ap (λ (s : List ℕ). 44 ∷ s) (listed_push ys x)) ∙ sym (append_assoc (printed y) (44 ∷ []) _)
    ∙ sym (append_assoc (item_and_comma y) (flat_map item_and_comma ys) _)

pub items_next : (text rest after later : List ℕ) (xs : List Tree) (x : Tree) → text ≡ flat_map item_and_comma xs ++ rest → rest ≡ printed x ++ after → after ≡ 44 ∷ later
    → text ≡ flat_map item_and_comma (xs ++ x ∷ []) ++ later
items_next text rest after later xs x so_far item is =
    so_far ∙ ap (λ (s : List ℕ). flat_map item_and_comma xs ++ s) (item ∙ ap (λ (s : List ℕ). printed x ++ s) is ∙ sym (append_assoc (printed x) (44 ∷ []) later))
    ∙ sym (append_assoc (flat_map item_and_comma xs) (item_and_comma x) later)
    ∙ ap (λ (s : List ℕ). s ++ later) (sym (flat_map-append item_and_comma xs (x ∷ []) ∙ ap (λ (s : List ℕ). flat_map item_and_comma xs ++ s) (append-nil (item_and_comma x))))

pub items_end : (text rest after later : List ℕ) (xs : List Tree) (x : Tree) → text ≡ flat_map item_and_comma xs ++ rest → rest ≡ printed x ++ after → after ≡ 93 ∷ later
    → text ≡ listed false (map printed (xs ++ x ∷ [])) ++ later
items_end text rest after later xs x so_far item is =
    so_far ∙ ap (λ (s : List ℕ). flat_map item_and_comma xs ++ s) (item ∙ ap (λ (s : List ℕ). printed x ++ s) is ∙ sym (append_assoc (printed x) (93 ∷ []) later))
    ∙ sym (append_assoc (flat_map item_and_comma xs) (printed x ++ 93 ∷ []) later) ∙ ap (λ (s : List ℕ). s ++ later) (sym (listed_push xs x))

-- a member's text
abbrev member_text : List ℕ × Tree → List ℕ
member_text m = quoted m.0 ++ 58 ∷ printed m.1

paired_later : (ms : List (List ℕ × Tree)) (m : List ℕ × Tree) → paired true (map printed_member (ms ++ m ∷ [])) ≡ 44 ∷ paired false (map printed_member (ms ++ m ∷ []))
paired_later [] m = refl
paired_later (n ∷ ns) m = refl

member_then : (m : List ℕ × Tree) (rest : List ℕ) → quoted m.0 ++ 58 ∷ (printed m.1 ++ 44 ∷ rest) ≡ member_and_comma m ++ rest
member_then m rest =
    ap (λ (s : List ℕ). quoted m.0 ++ 58 ∷ s) (sym (append_assoc (printed m.1) (44 ∷ []) rest)) ∙ sym (append_assoc (quoted m.0) (58 ∷ (printed m.1 ++ 44 ∷ [])) rest)

paired_push : (ms : List (List ℕ × Tree)) (m : List ℕ × Tree) → paired false (map printed_member (ms ++ m ∷ [])) ≡ flat_map member_and_comma ms ++ (quoted m.0 ++ 58 ∷ (printed m.1 ++ 125 ∷ []))
paired_push [] m = refl
paired_push (n ∷ ns) m =
    ap (λ (s : List ℕ). quoted n.0 ++ 58 ∷ (printed n.1 ++ s)) (paired_later ns m ∙ ap (λ (s : List ℕ). 44 ∷ s) (paired_push ns m))
    ∙ member_then n (flat_map member_and_comma ns ++ (quoted m.0 ++ 58 ∷ (printed m.1 ++ 125 ∷ []))) ∙ sym (append_assoc (member_and_comma n) (flat_map member_and_comma ns) _)

pub members_next : (text rest value after later : List ℕ) (ms : List (List ℕ × Tree)) (m : List ℕ × Tree) → text ≡ flat_map member_and_comma ms ++ rest
    → rest ≡ quoted m.0 ++ 58 ∷ value → value ≡ printed m.1 ++ after → after ≡ 44 ∷ later → text ≡ flat_map member_and_comma (ms ++ m ∷ []) ++ later
members_next text rest value after later ms m so_far name tree is =
    so_far ∙ ap (λ (s : List ℕ). flat_map member_and_comma ms ++ s) (name ∙ ap (λ (s : List ℕ). quoted m.0 ++ 58 ∷ s) (tree ∙ ap (λ (s : List ℕ). printed m.1 ++ s) is) ∙ member_then m later)
    ∙ sym (append_assoc (flat_map member_and_comma ms) (member_and_comma m) later)
    ∙ ap (λ (s : List ℕ). s ++ later) (sym (flat_map-append member_and_comma ms (m ∷ []) ∙ ap (λ (s : List ℕ). flat_map member_and_comma ms ++ s) (append-nil (member_and_comma m))))

pub members_end : (text rest value after later : List ℕ) (ms : List (List ℕ × Tree)) (m : List ℕ × Tree) → text ≡ flat_map member_and_comma ms ++ rest
    → rest ≡ quoted m.0 ++ 58 ∷ value → value ≡ printed m.1 ++ after → after ≡ 125 ∷ later → text ≡ paired false (map printed_member (ms ++ m ∷ [])) ++ later
members_end text rest value after later ms m so_far name tree is =
    let last : quoted m.0 ++ 58 ∷ (printed m.1 ++ 125 ∷ later) ≡ (quoted m.0 ++ 58 ∷ (printed m.1 ++ 125 ∷ [])) ++ later =
    ap (λ (s : List ℕ). quoted m.0 ++ 58 ∷ s) (sym (append_assoc (printed m.1) (125 ∷ []) later)) ∙ sym (append_assoc (quoted m.0) (58 ∷ (printed m.1 ++ 125 ∷ [])) later) in
    so_far ∙ ap (λ (s : List ℕ). flat_map member_and_comma ms ++ s) (name ∙ ap (λ (s : List ℕ). quoted m.0 ++ 58 ∷ s) (tree ∙ ap (λ (s : List ℕ). printed m.1 ++ s) is) ∙ last)
    ∙ sym (append_assoc (flat_map member_and_comma ms) _ later) ∙ ap (λ (s : List ℕ). s ++ later) (sym (paired_push ms m))

-- ---- names

pub lt_less : (b : Bool) (o : Ordering) → b ≡ is_lt o → IsTrue b → o ≡ Less
lt_less b Less e h = refl
lt_less b Equal e h = absurd (false≢true (subst IsTrue e h))
lt_less b Greater e h = absurd (false≢true (subst IsTrue e h))

small_is : (name next other : List ℕ) → Some name ≡ Some other → slice_cmp nat_cmp other next ≡ Less → slice_cmp nat_cmp name next ≡ Less
small_is name next other is less = ap (λ (o : Option (List ℕ)). slice_cmp nat_cmp (unwrap_or o name) next) is ∙ less

below_more : (name next : List ℕ) (tree : Tree) (ms : List (List ℕ × Tree)) (k : ℕ) (m : List ℕ × Tree) → IsBelow name ms → length ms ≡ suc k → slice_get ms k ≡ Some m
    → slice_cmp nat_cmp m.0 next ≡ Less → IsBelow name (ms ++ (next, tree) ∷ [])
below_more name next tree [] k m below len last less = absurd (omega (arith, len))
below_more name next tree (n ∷ []) zero m below len last less =
    (below.0, (nat_list_cmp_total.trans name n.0 next below.0 (small_is n.0 next m.0 (ap (λ (o : Option (List ℕ × Tree)). option_map (λ p. p.0) o) last) less), tt))
below_more name next tree (n ∷ []) (suc k) m below len last less = absurd (omega (arith, len))
below_more name next tree (n ∷ o ∷ ms) zero m below len last less = absurd (omega (arith, len))
below_more name next tree (n ∷ o ∷ ms) (suc k) m below len last less = (below.0, below_more name next tree (o ∷ ms) k m below.1 (omega (arith, len)) last less)

names_after : (ms : List (List ℕ × Tree)) (k : ℕ) (m : List ℕ × Tree) (next : List ℕ) (tree : Tree) → NamesAscend ms → length ms ≡ suc k → slice_get ms k ≡ Some m
    → slice_cmp nat_cmp m.0 next ≡ Less → NamesAscend (ms ++ (next, tree) ∷ [])
names_after [] k m next tree names len last less = absurd (omega (arith, len))
names_after (n ∷ []) zero m next tree names len last less =
    ((small_is n.0 next m.0 (ap (λ (o : Option (List ℕ × Tree)). option_map (λ p. p.0) o) last) less, tt), (tt, tt))
names_after (n ∷ []) (suc k) m next tree names len last less = absurd (omega (arith, len))
names_after (n ∷ o ∷ ms) zero m next tree names len last less = absurd (omega (arith, len))
names_after (n ∷ o ∷ ms) (suc k) m next tree names len last less =
    (below_more n.0 next tree (o ∷ ms) k m names.0 (omega (arith, len)) last less, names_after (o ∷ ms) k m next tree names.1 (omega (arith, len)) last less)

pub names_push : (ms : List (List ℕ × Tree)) (m : List ℕ × Tree) (next : List ℕ) (tree : Tree) → NamesAscend ms → Some m ≡ slice_get ms (length ms - 1)
    → slice_cmp nat_cmp m.0 next ≡ Less → NamesAscend (ms ++ (next, tree) ∷ [])
names_push ms m next tree names last less =
    let within : length ms - 1 < length ms = slice_get_within ms (length ms - 1) m (sym last) in
    names_after ms (length ms - 1) m next tree names (omega arith) (sym last) less

-- ---- the tree of a piece

pub tree_found : (line : List ℕ) (x : Tree) → line ≡ printed x → reading (printed x) ≡ read_as x → tree_in line ≡ Some x
unfolding tree_in
tree_found line x is read =
    ap tree_in is ∙ ap (if_printed (printed x)) read ∙ ap (λ (b : Bool). cond b (Some x) None) ((bytes_eq-Decides (printed x) (printed x)).1 refl)
