-- How long a stamped document is when it is printed.
use Rattle.std.proofs.Common.{◌≡◌, ℕ, ℤ, pos, negsuc, ◌+◌, ◌*◌, ◌/◌, ◌%◌, ◌≤◌, Bool, true, false, cond, List, [], ◌∷◌, ◌++◌, flat_map, length, map, arith, sym, ap, ◌∙◌, subst, length-append}
use Rattle.std.specs.Prelude.{nat_lt, unwrap_or}
use Rattle.std.specs.Cmp.Lexicographic.{slice_cmp}
use Rattle.std.specs.Char.{digit_char}
use Rattle.std.specs.Fmt.{signed_decimal}
use Rattle.std.specs.Ordering.{match_ordering, nat_cmp}
use Rattle.std.specs.declared.cmp.Ordering.{Ordering}
use Rattle.std.specs.declared.cmp.Ordering.TheVariants.{Less, Equal, Greater}
use Rattle.std.proofs.lemmas.Fmt.{length_signed_le}
use Rattle.std.proofs.lemmas.Int.{ints}
use Rattle.tf_model.specs.declared.tree.Tree.{Tree, out-Tree, map-Tree, roll-out-Tree, fold-roll-Tree}
use Rattle.tf_model.specs.declared.tree.Tree.TheOpen.{Tree-F}
use Rattle.tf_model.specs.declared.tree.Tree.TheVariants as tree
use Rattle.tf_model.specs.Conditions.{IsSpan}
use Rattle.tf_model.specs.Print.{comma_if, escape_letter, escaped, paired, printed, printed_member, quoted, text_step}
use Rattle.tf_model.specs.Trees.{members_in, members_level}
use Rattle.tf_mapping.specs.Stamps.{stamped, with_member}

abbrev Member : Type 0
Member = List ℕ × Tree

abbrev size : Bool → List Member → ℕ
size later members = length (paired later (map printed_member members))

-- ---- one member more
comma_small : (later : Bool) → length (comma_if later) ≤ 1
comma_small true = omega arith
comma_small false = omega arith

size_first : (later : Bool) (m : Member) (members : List Member) → size later (m ∷ members) ≡ length (comma_if later) + (length (quoted m.0) + (1 + (length (printed m.1) + size true members)))
size_first later m members =
    let rest = printed m.1 ++ paired true (map printed_member members) in
    length-append (comma_if later) (quoted m.0 ++ 58 ∷ rest)
    ∙ ap (λ n. length (comma_if later) + n) (length-append (quoted m.0) (58 ∷ rest) ∙ ap (λ n. length (quoted m.0) + n) (one_more rest ∙ ap (λ n. 1 + n) (length-append (printed m.1) (paired true (map printed_member members)))))
  where
    one_more : (xs : List ℕ) → length (58 ∷ xs) ≡ 1 + length xs
    one_more xs = omega arith

size_later : (later : Bool) (members : List Member) → size true members ≤ size later members + 1
size_later later [] = omega arith
size_later later (m ∷ members) = omega (arith, size_first true m members, size_first later m members, comma_small true, comma_small later)

inserted_size : (later : Bool) (members : List Member) (name : List ℕ) (t : Tree)
    → size later (with_member members name t) ≤ size later members + (length (quoted name) + (length (printed t) + 3))
inserted_size later [] name t = omega (arith, size_first later (name, t) [], comma_small later)
inserted_size later (m ∷ members) name t = by_order (slice_cmp nat_cmp name m.0) (inserted_size true members name t)
  where
    by_order : (o : Ordering) → size true (with_member members name t) ≤ size true members + (length (quoted name) + (length (printed t) + 3))
        → size later (match_ordering o ((name, t) ∷ m ∷ members) ((m.0, t) ∷ members) (m ∷ with_member members name t)) ≤ size later (m ∷ members) + (length (quoted name) + (length (printed t) + 3))
    by_order Less rest = omega (arith, size_first later (name, t) (m ∷ members), size_later later (m ∷ members), comma_small later)
    by_order Equal rest = omega (arith, size_first later (m.0, t) members, size_first later m members)
    by_order Greater rest = omega (arith, size_first later m (with_member members name t), size_first later m members, rest)

-- ---- the name and the number
letter_size : (x : ℕ) → length (escaped x) ≤ 6
unfolding escaped
letter_size x = by_letter (nat_lt 0 (escape_letter x)) (nat_lt x 32)
  where
    by_letter : (a b : Bool) → length (cond a (92 ∷ escape_letter x ∷ []) (cond b (92 ∷ 117 ∷ 48 ∷ 48 ∷ digit_char (x / 16) ∷ digit_char (x % 16) ∷ []) (x ∷ []))) ≤ 6
    by_letter true b = omega arith
    by_letter false true = omega arith
    by_letter false false = omega arith

escapes_size : (xs : List ℕ) → length (flat_map escaped xs) ≤ 6 * length xs
escapes_size [] = omega arith
escapes_size (x ∷ xs) = omega (arith, letter_size x, escapes_size xs, length-append (escaped x) (flat_map escaped xs))

quoted_size : (xs : List ℕ) → length (quoted xs) ≤ 6 * length xs + 2
quoted_size xs = omega (arith, escapes_size xs, length-append (flat_map escaped xs) (34 ∷ []))

number_size : (ms : ℤ) → IsSpan ms → length (signed_decimal ms) ≤ 21
number_size (pos n) span = length_signed_le 20 (pos n) (omega (arith, ints, span.1)) (omega (arith, ints, span.1))
number_size (negsuc n) span = absurd (omega (arith, ints, span.0))

-- ---- the whole document
printed_object : (members : List Member) → printed (tree.Obj members) ≡ 123 ∷ paired false (map printed_member members)
printed_object members = ap printed (sym (tree.rolls-Obj members)) ∙ fold-roll-Tree (List ℕ) text_step (Tree-F.Obj members)

printed_number : (ms : ℤ) → printed (tree.Num ms) ≡ signed_decimal ms
printed_number ms = ap printed (sym (tree.rolls-Num ms)) ∙ fold-roll-Tree (List ℕ) text_step (Tree-F.Num ms)

printed_level : (t : Tree) → printed t ≡ text_step (map-Tree Tree (List ℕ) printed (out-Tree t))
printed_level t = ap printed (sym (roll-out-Tree t)) ∙ fold-roll-Tree (List ℕ) text_step (out-Tree t)

inside_size : (x : Tree-F Tree) → size false (unwrap_or (members_level x) []) ≤ length (text_step (map-Tree Tree (List ℕ) printed x)) + 1
inside_size Tree-F.Null = omega arith
inside_size (Tree-F.Bool b) = omega arith
inside_size (Tree-F.Num z) = omega arith
inside_size (Tree-F.Str s) = omega arith
inside_size (Tree-F.Arr items) = omega arith
inside_size (Tree-F.Obj members) = omega arith

members_size : (t : Tree) → size false (unwrap_or (members_in t) []) ≤ length (printed t) + 1
unfolding members_in
members_size t = subst (λ xs. size false (unwrap_or (members_level (out-Tree t)) []) ≤ length xs + 1) (sym (printed_level t)) (inside_size (out-Tree t))

-- with a stamp of at most 255 bytes
pub stamped_size : (t : Tree) (path : List ℕ) (ms : ℤ) → length path ≤ 255 → IsSpan ms → length (printed (stamped t path ms)) ≤ length (printed t) + 2000
unfolding stamped
stamped_size t path ms short span =
    let members = unwrap_or (members_in t) [] in
    let number : length (printed (tree.Num ms)) ≤ 21 = subst (λ xs. length xs ≤ 21) (sym (printed_number ms)) (number_size ms span) in
    omega (arith, ap length (printed_object (with_member members path (tree.Num ms))), inserted_size false members path (tree.Num ms), members_size t, quoted_size path, number, short)
