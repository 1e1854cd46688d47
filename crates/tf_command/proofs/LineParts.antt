-- What is inside a tree that a line can be is such a tree too.
use Rattle.std.proofs.Common.{◌≡◌, ℕ, zero, suc, Bool, true, false, cond, List, [], ◌∷◌, Some, IsUtf8, sym, ap, subst, ◌∙◌, ◌≤◌, ◌+◌, ◌++◌, map, flat_map, length, length-append, arith, nat_lt, ◌/◌, ◌%◌}
use Rattle.std.specs.List.{AllByRecursion}
use Rattle.tf_model.specs.declared.tree.Tree.{Tree, out-Tree, map-Tree, roll-out-Tree, fold-roll-Tree}
use Rattle.tf_model.specs.declared.tree.Tree.TheOpen.{Tree-F}
use Rattle.tf_model.specs.Lines.{IsLeaf, IsLevel, IsLine, IsLineWithin, NamesAscend}
use Rattle.std.specs.Char.{digit_char}
use Rattle.std.specs.Str.{bytes_eq}
use Rattle.tf_model.specs.Trees.{items_in, items_level, members_in, members_level, text_in, text_level, member_at}
use Rattle.tf_model.specs.Print.{comma_if, escape_letter, escaped, quoted, listed, paired, text_step, printed, printed_member}
use Rattle.tf_command.specs.Commands.{max_line}
use Rattle.tf_command.specs.Formed.{AreKept, IsKept}
use Rattle.tf_command.proofs.Options.{by_either}

each : {A : Type 0} (P Q : A → Type 0) → ((x : A) → P x → Q x) → (xs : List A) → AllByRecursion P xs → AllByRecursion Q xs
each P Q one [] h = tt
each P Q one (x ∷ xs) h = (one x h.0, each P Q one xs h.1)

-- ---- nesting that is allowed may be less

level_more : (Inner Outer : Tree → Type 0) → ((t : Tree) → Inner t → Outer t) → (x : Tree-F Tree) → IsLevel Inner x → IsLevel Outer x
level_more Inner Outer one Tree-F.Null h = tt
level_more Inner Outer one (Tree-F.Bool b) h = tt
level_more Inner Outer one (Tree-F.Num z) h = h
level_more Inner Outer one (Tree-F.Str s) h = h
level_more Inner Outer one (Tree-F.Arr items) h = each Inner Outer one items h
level_more Inner Outer one (Tree-F.Obj members) h =
    (h.0, each (λ m. IsUtf8 m.0 × Inner m.1) (λ m. IsUtf8 m.0 × Outer m.1) (λ m both. (both.0, one m.1 both.1)) members h.1)

leaf_level : (Outer : Tree → Type 0) (x : Tree-F Tree) → IsLeaf x → IsLevel Outer x
leaf_level Outer Tree-F.Null h = tt
leaf_level Outer (Tree-F.Bool b) h = tt
leaf_level Outer (Tree-F.Num z) h = h
leaf_level Outer (Tree-F.Str s) h = h
leaf_level Outer (Tree-F.Arr items) h = absurd h
leaf_level Outer (Tree-F.Obj members) h = absurd h

more_nesting : (n : ℕ) (t : Tree) → IsLineWithin n t → IsLineWithin (suc n) t
unfolding IsLineWithin
more_nesting zero t h = leaf_level (IsLineWithin zero) (out-Tree t) h
more_nesting (suc n) t h = level_more (IsLineWithin n) (IsLineWithin (suc n)) (more_nesting n) (out-Tree t) h

-- ---- the trees in an object, and those in an array

members_level_lines : (Inner : Tree → Type 0) (x : Tree-F Tree) (members : List (List ℕ × Tree)) → IsLevel Inner x → members_level x ≡ Some members
    → AllByRecursion (λ m. Inner m.1) members
members_level_lines Inner Tree-F.Null members h e = absurd (cc)
members_level_lines Inner (Tree-F.Bool b) members h e = absurd (cc)
members_level_lines Inner (Tree-F.Num z) members h e = absurd (cc)
members_level_lines Inner (Tree-F.Str s) members h e = absurd (cc)
members_level_lines Inner (Tree-F.Arr items) members h e = absurd (cc)
members_level_lines Inner (Tree-F.Obj inside) members h e =
    let same : inside ≡ members = cc in
    let P : List (List ℕ × Tree) → Type 0 = AllByRecursion (λ m. Inner m.1) in
    subst P same (each (λ m. IsUtf8 m.0 × Inner m.1) (λ m. Inner m.1) (λ m both. both.1) inside h.1)

items_level_lines : (Inner : Tree → Type 0) (x : Tree-F Tree) (items : List Tree) → IsLevel Inner x → items_level x ≡ Some items → AllByRecursion Inner items
items_level_lines Inner Tree-F.Null items h e = absurd (cc)
items_level_lines Inner (Tree-F.Bool b) items h e = absurd (cc)
items_level_lines Inner (Tree-F.Num z) items h e = absurd (cc)
items_level_lines Inner (Tree-F.Str s) items h e = absurd (cc)
items_level_lines Inner (Tree-F.Arr inside) items h e = let same : inside ≡ items = cc in subst (AllByRecursion Inner) same h
items_level_lines Inner (Tree-F.Obj members) items h e = absurd (cc)

members_within : (n : ℕ) (t : Tree) (members : List (List ℕ × Tree)) → IsLineWithin n t → members_in t ≡ Some members
    → AllByRecursion (λ m. IsLineWithin n m.1) members
unfolding IsLineWithin members_in
members_within zero t members h e = members_level_lines (IsLineWithin zero) (out-Tree t) members (leaf_level (IsLineWithin zero) (out-Tree t) h) e
members_within (suc n) t members h e =
    each (λ m. IsLineWithin n m.1) (λ m. IsLineWithin (suc n) m.1) (λ m. more_nesting n m.1) members
    (members_level_lines (IsLineWithin n) (out-Tree t) members h e)

items_within : (n : ℕ) (t : Tree) (items : List Tree) → IsLineWithin n t → items_in t ≡ Some items → AllByRecursion (IsLineWithin n) items
unfolding IsLineWithin items_in
items_within zero t items h e = items_level_lines (IsLineWithin zero) (out-Tree t) items (leaf_level (IsLineWithin zero) (out-Tree t) h) e
items_within (suc n) t items h e =
    each (IsLineWithin n) (IsLineWithin (suc n)) (more_nesting n) items (items_level_lines (IsLineWithin n) (out-Tree t) items h e)

lines_of_members : (t : Tree) (members : List (List ℕ × Tree)) → IsLine t → members_in t ≡ Some members → AllByRecursion (λ m. IsLine m.1) members
unfolding IsLine
lines_of_members t members h e = members_within 127 t members h e

lines_of_items : (t : Tree) (items : List Tree) → IsLine t → items_in t ≡ Some items → AllByRecursion IsLine items
unfolding IsLine
lines_of_items t items h e = items_within 127 t items h e

-- ---- what is inside is printed inside

printed_level : (t : Tree) → printed t ≡ text_step (map-Tree Tree (List ℕ) printed (out-Tree t))
printed_level t = ap printed (sym (roll-out-Tree t)) ∙ fold-roll-Tree (List ℕ) text_step (out-Tree t)

members_level_text : (x : Tree-F Tree) (members : List (List ℕ × Tree)) → members_level x ≡ Some members
    → text_step (map-Tree Tree (List ℕ) printed x) ≡ 123 ∷ paired false (map printed_member members)
members_level_text Tree-F.Null members e = absurd (cc)
members_level_text (Tree-F.Bool b) members e = absurd (cc)
members_level_text (Tree-F.Num z) members e = absurd (cc)
members_level_text (Tree-F.Str s) members e = absurd (cc)
members_level_text (Tree-F.Arr items) members e = absurd (cc)
members_level_text (Tree-F.Obj inside) members e = let same : inside ≡ members = cc in ap (λ ms. 123 ∷ paired false (map printed_member ms)) same

items_level_text : (x : Tree-F Tree) (items : List Tree) → items_level x ≡ Some items → text_step (map-Tree Tree (List ℕ) printed x) ≡ 91 ∷ listed false (map printed items)
items_level_text Tree-F.Null items e = absurd (cc)
items_level_text (Tree-F.Bool b) items e = absurd (cc)
items_level_text (Tree-F.Num z) items e = absurd (cc)
items_level_text (Tree-F.Str s) items e = absurd (cc)
items_level_text (Tree-F.Arr inside) items e = let same : inside ≡ items = cc in ap (λ xs. 91 ∷ listed false (map printed xs)) same
items_level_text (Tree-F.Obj members) items e = absurd (cc)

text_level_text : (x : Tree-F Tree) (text : List ℕ) → text_level x ≡ Some text → text_step (map-Tree Tree (List ℕ) printed x) ≡ quoted text
text_level_text Tree-F.Null text e = absurd (cc)
text_level_text (Tree-F.Bool b) text e = absurd (cc)
text_level_text (Tree-F.Num z) text e = absurd (cc)
text_level_text (Tree-F.Str s) text e = let same : s ≡ text = cc in ap quoted same
text_level_text (Tree-F.Arr items) text e = absurd (cc)
text_level_text (Tree-F.Obj members) text e = absurd (cc)

each_paired : (n : ℕ) (later : Bool) (members : List (List ℕ × Tree)) → length (paired later (map printed_member members)) ≤ n → AllByRecursion (λ m. length (printed m.1) ≤ n) members
each_paired n later [] h = tt
each_paired n later (m ∷ ms) h =
    let rest = paired true (map printed_member ms) in
    let all = length-append (comma_if later) (quoted m.0 ++ 58 ∷ (printed m.1 ++ rest)) in
    let named = length-append (quoted m.0) (58 ∷ (printed m.1 ++ rest)) in
    let one = length-append (printed m.1) rest in
    (omega (arith, h, all, named, one), each_paired n true ms (omega (arith, h, all, named, one)))

each_listed : (n : ℕ) (later : Bool) (items : List Tree) → length (listed later (map printed items)) ≤ n → AllByRecursion (λ t. length (printed t) ≤ n) items
each_listed n later [] h = tt
each_listed n later (x ∷ xs) h =
    let rest = listed true (map printed xs) in
    let all = length-append (comma_if later) (printed x ++ rest) in
    let one = length-append (printed x) rest in
    (omega (arith, h, all, one), each_listed n true xs (omega (arith, h, all, one)))

members_short : (n : ℕ) (t : Tree) (members : List (List ℕ × Tree)) → length (printed t) ≤ n → members_in t ≡ Some members → AllByRecursion (λ m. length (printed m.1) ≤ n) members
unfolding members_in
members_short n t members h e = each_paired n false members (omega (arith, h, ap length (printed_level t ∙ members_level_text (out-Tree t) members e)))

items_short : (n : ℕ) (t : Tree) (items : List Tree) → length (printed t) ≤ n → items_in t ≡ Some items → AllByRecursion (λ x. length (printed x) ≤ n) items
unfolding items_in
items_short n t items h e = each_listed n false items (omega (arith, h, ap length (printed_level t ∙ items_level_text (out-Tree t) items e)))

each_counted : (items : List Tree) → length items + 1 ≤ length (listed true (map printed items))
each_counted [] = omega arith
each_counted (x ∷ xs) = omega (arith, each_counted xs, length-append (printed x) (listed true (map printed xs)))

all_counted : (items : List Tree) → length items ≤ length (listed false (map printed items))
all_counted [] = omega arith
all_counted (x ∷ xs) = omega (arith, each_counted xs, length-append (printed x) (listed true (map printed xs)))

-- no more items than the text has bytes
pub items_few : (n : ℕ) (t : Tree) (items : List Tree) → length (printed t) ≤ n → items_in t ≡ Some items → length items ≤ n
unfolding items_in
items_few n t items h e = omega (arith, h, all_counted items, ap length (printed_level t ∙ items_level_text (out-Tree t) items e))

some_bytes : (a b : Bool) (x y z : ℕ) (xs ys : List ℕ) → 1 ≤ length (cond a (x ∷ xs) (cond b (y ∷ ys) (z ∷ [])))
some_bytes true b x y z xs ys = omega arith
some_bytes false true x y z xs ys = omega arith
some_bytes false false x y z xs ys = omega arith

some_byte : (x : ℕ) → 1 ≤ length (escaped x)
unfolding escaped
some_byte x =
    some_bytes (nat_lt 0 (escape_letter x)) (nat_lt x 32) 92 92 x (escape_letter x ∷ []) (117 ∷ 48 ∷ 48 ∷ digit_char (x / 16) ∷ digit_char (x % 16) ∷ [])

escaped_more : (text : List ℕ) → length text ≤ length (flat_map escaped text)
escaped_more [] = omega arith
escaped_more (x ∷ xs) = omega (arith, some_byte x, escaped_more xs, length-append (escaped x) (flat_map escaped xs))

-- ---- what is kept

pub text_short : (n : ℕ) (t : Tree) (text : List ℕ) → length (printed t) ≤ n → text_in t ≡ Some text → length text ≤ n
unfolding text_in
text_short n t text h e =
    omega (arith, h, ap length (printed_level t ∙ text_level_text (out-Tree t) text e), escaped_more text, length-append (flat_map escaped text) (34 ∷ []))

two : {A : Type 0} (P Q : A → Type 0) (xs : List A) → AllByRecursion P xs → AllByRecursion Q xs → AllByRecursion (λ x. P x × Q x) xs
two P Q [] p q = tt
two P Q (x ∷ xs) p q = ((p.0, q.0), two P Q xs p.1 q.1)

pub kept_members : (t : Tree) (members : List (List ℕ × Tree)) → IsKept t → members_in t ≡ Some members → AreKept members
kept_members t members h e = two (λ m. IsLine m.1) (λ m. length (printed m.1) ≤ max_line) members (lines_of_members t members h.0 e) (members_short max_line t members h.1 e)

pub kept_items : (t : Tree) (items : List Tree) → IsKept t → items_in t ≡ Some items → AllByRecursion IsKept items
kept_items t items h e = two IsLine (λ x. length (printed x) ≤ max_line) items (lines_of_items t items h.0 e) (items_short max_line t items h.1 e)

pub kept_at : (n : List ℕ) (members : List (List ℕ × Tree)) (t : Tree) → AreKept members → member_at members n ≡ Some t → IsKept t
kept_at n [] t h e = absurd (cc)
kept_at n (m ∷ ms) t h e =
    by_either (bytes_eq m.0 n)
    (λ same. let found : Some m.1 ≡ Some t = sym (ap (λ b. cond b (Some m.1) (member_at ms n)) same) ∙ e in let is : m.1 ≡ t = cc in subst IsKept is h.0)
    (λ other. kept_at n ms t h.1 (sym (ap (λ b. cond b (Some m.1) (member_at ms n)) other) ∙ e))

-- ---- texts, and the names of members

text_level_utf8 : (Inner : Tree → Type 0) (x : Tree-F Tree) (text : List ℕ) → IsLevel Inner x → text_level x ≡ Some text → IsUtf8 text
text_level_utf8 Inner Tree-F.Null text h e = absurd (cc)
text_level_utf8 Inner (Tree-F.Bool b) text h e = absurd (cc)
text_level_utf8 Inner (Tree-F.Num z) text h e = absurd (cc)
text_level_utf8 Inner (Tree-F.Str s) text h e = let same : s ≡ text = cc in subst IsUtf8 same h
text_level_utf8 Inner (Tree-F.Arr items) text h e = absurd (cc)
text_level_utf8 Inner (Tree-F.Obj members) text h e = absurd (cc)

pub text_utf8 : (t : Tree) (text : List ℕ) → IsLine t → text_in t ≡ Some text → IsUtf8 text
unfolding IsLine IsLineWithin text_in
text_utf8 t text h e = text_level_utf8 (IsLineWithin 126) (out-Tree t) text h e

-- names that ascend and are UTF-8
pub record AreNamed (members : List (List ℕ × Tree)) : Type 0 where
  pub ascend : NamesAscend members
  pub utf8 : AllByRecursion (λ m. IsUtf8 m.0) members

names_level : (Inner : Tree → Type 0) (x : Tree-F Tree) (members : List (List ℕ × Tree)) → IsLevel Inner x → members_level x ≡ Some members → AreNamed members
names_level Inner Tree-F.Null members h e = absurd (cc)
names_level Inner (Tree-F.Bool b) members h e = absurd (cc)
names_level Inner (Tree-F.Num z) members h e = absurd (cc)
names_level Inner (Tree-F.Str s) members h e = absurd (cc)
names_level Inner (Tree-F.Arr items) members h e = absurd (cc)
names_level Inner (Tree-F.Obj inside) members h e =
    let same : inside ≡ members = cc in
    subst AreNamed same (record { ascend = h.0; utf8 = each (λ m. IsUtf8 m.0 × Inner m.1) (λ m. IsUtf8 m.0) (λ m both. both.0) inside h.1 })

pub names_of_members : (t : Tree) (members : List (List ℕ × Tree)) → IsLine t → members_in t ≡ Some members → AreNamed members
unfolding IsLine IsLineWithin members_in
names_of_members t members h e = names_level (IsLineWithin 126) (out-Tree t) members h e

each_named : (n : ℕ) (later : Bool) (members : List (List ℕ × Tree)) → length (paired later (map printed_member members)) ≤ n → AllByRecursion (λ m. length m.0 ≤ n) members
each_named n later [] h = tt
each_named n later (m ∷ ms) h =
    let rest = paired true (map printed_member ms) in
    let all = length-append (comma_if later) (quoted m.0 ++ 58 ∷ (printed m.1 ++ rest)) in
    let named = length-append (quoted m.0) (58 ∷ (printed m.1 ++ rest)) in
    let text = length-append (flat_map escaped m.0) (34 ∷ []) in
    let one = length-append (printed m.1) rest in
    (omega (arith, h, all, named, text, one, escaped_more m.0), each_named n true ms (omega (arith, h, all, named, one)))

-- no name is longer than the text
pub names_short : (n : ℕ) (t : Tree) (members : List (List ℕ × Tree)) → length (printed t) ≤ n → members_in t ≡ Some members → AllByRecursion (λ m. length m.0 ≤ n) members
unfolding members_in
names_short n t members h e = each_named n false members (omega (arith, h, ap length (printed_level t ∙ members_level_text (out-Tree t) members e)))
