-- The line of a stored value is read as that value.
use Rattle.std.proofs.Common.{◌≡◌, ℕ, ◌+◌, ◌≤◌, suc, max, ℤ, pos, negsuc, List, [], ◌∷◌, map, Some, option_map, option_and_then, Ok, Less, Greater, nat_cmp, IsUtf8, true, false, Bool, refl, sym, ap, ap₂, ◌∙◌, subst, arith, append-nil}
use Rattle.std.proofs.lemmas.Cmp.{nat_list_cmp_total}
use Rattle.std.specs.Cmp.Lexicographic.{slice_cmp}
use Rattle.std.specs.Ordering.{ordering_reverse}
use Rattle.json.specs.Lex.{tokens}
use Rattle.json.specs.Json as json
use Rattle.json.specs.Tree as tree
use Rattle.json.proofs.Printed.Tokens.{tokens-print}
use Rattle.json.proofs.Printed.Trees.{value-json_tokens, ArePrintable-json_tokens}
use Rattle.json.proofs.Printed.Decimals.{IsNumber-decimal, IsNumber-signed_decimal}
use Rattle.serde_json.specs.Data.{Num, unsigned, negative, float, Data, null, boolean, number, string, array, object, Items, no_items, item, Members, no_members, member, put, depth, items_depth, members_depth}
use Rattle.serde_json.specs.Read.{number_of, of_json, of_items, of_members, max_depth, read}
use Rattle.serde_json.specs.Written.{number_text, outline, items_outline, members_outline, compact_text}
use Rattle.serde_json.proofs.Numbers.{number_of-decimal, number_of-negative}
use Rattle.serde_json.proofs.Texts.{print-outline}
use Rattle.json.specs.Print.{quoted, IsNumber}
use Rattle.json.proofs.Printed.Utf8.{IsUtf8-are_ascii, IsUtf8-boolean, IsUtf8-quoted}
use Rattle.std.proofs.lemmas.Str.{IsUtf8-append, IsUtf8-nil, IsUtf8-from_ascii}
use Rattle.std.proofs.lemmas.Fmt.{IsAscii-decimal, IsAscii-signed}
use Rattle.serde_json.specs.Find.{of_integer}
use Rattle.serde_json.specs.Written.{comma_if, items_text, members_text}
use Rattle.tf_json.specs.Reading.{map_reads, tree_of, trees_of, members_of, tree_of_number, reading, tree as read_as}
use Rattle.tf_json.specs.Stored.{IsBelow, IsWhole, IsStored, AreStored, MembersAreStored, data_of, data_step, data_member, named}
use Rattle.tf_json.proofs.Lines.{reading_by}
use Rattle.tf_json.proofs.ModelLines.{line_leads}
use Rattle.tf_model.specs.Lines.{IsLine}
use Rattle.tf_model.specs.declared.tree.Tree.{Tree, ind-Tree, roll-Tree, map-Tree, fold-roll-Tree}
use Rattle.tf_model.specs.declared.tree.Tree.TheOpen.{Tree-F}
use Rattle.serde_json.specs.View.{items_of}
use Rattle.tf_model.specs.declared.tree.Tree.TheVariants as t

-- ---- members that ascend go in at the end

abbrev joined : Members → Members → Members
joined no_members more = more
joined (member k d ms) more = member k d (joined ms more)

-- each name is below k
abbrev AreUnder : Members → List ℕ → Type 0
AreUnder no_members k = Unit {0}
AreUnder (member l d ms) k = (slice_cmp nat_cmp l k ≡ Less) × AreUnder ms k

-- each name is below all of those
abbrev AllUnder : Members → Members → Type 0
AllUnder done no_members = Unit {0}
AllUnder done (member k d ms) = AreUnder done k × AllUnder done ms

put_after : (done : Members) (k : List ℕ) (d : Data) → AreUnder done k → put k d done ≡ joined done (member k d no_members)
put_after no_members k d h = refl
put_after (member l e ms) k d h =
    let above : slice_cmp nat_cmp k l ≡ Greater = nat_list_cmp_total.antisymm k l ∙ ap ordering_reverse h.0 in
    rw above (ap (member l e) (put_after ms k d h.1))

AreUnder-joined : (done : Members) (k l : List ℕ) (d : Data) → AreUnder done l → slice_cmp nat_cmp k l ≡ Less → AreUnder (joined done (member k d no_members)) l
AreUnder-joined no_members k l d h e = (e, tt)
AreUnder-joined (member j x ms) k l d h e = (h.0, AreUnder-joined ms k l d h.1 e)

AllUnder-joined : (done ms : Members) (k : List ℕ) (d : Data) → AllUnder done ms → IsBelow k ms → AllUnder (joined done (member k d no_members)) ms
AllUnder-joined done no_members k d h b = tt
AllUnder-joined done (member l e ms) k d h b = (AreUnder-joined done k l d h.0 b.0, AllUnder-joined done ms k d h.1 b.1)

joined_more : (done ms : Members) (k : List ℕ) (d : Data) → joined (joined done (member k d no_members)) ms ≡ joined done (member k d ms)
joined_more no_members ms k d = refl
joined_more (member l e rest) ms k d = ap (member l e) (joined_more rest ms k d)

joined_end : (done : Members) → joined done no_members ≡ done
joined_end no_members = refl
joined_end (member k d ms) = ap (member k d) (joined_end ms)

AllUnder-none : (ms : Members) → AllUnder no_members ms
AllUnder-none no_members = tt
AllUnder-none (member k d ms) = (tt, AllUnder-none ms)

number_back : (n : Num) → IsWhole n → number_of (number_text n) ≡ Some n
number_back (unsigned n) h = number_of-decimal n h
number_back (negative (pos n)) h = absurd h
number_back (negative (negsuc n)) h = number_of-negative n h
number_back (float x) h = absurd h

mutual
  outline_back : (d : Data) → IsStored d → of_json (outline d) ≡ Some d
  outline_back null h = refl
  outline_back (boolean b) h = refl
  outline_back (number n) h = ap (option_map number) (number_back n h)
  outline_back (string s) h = refl
  outline_back (array ds) h = ap (option_map array) (items_back ds h)
  outline_back (object ms) h = ap (option_map object) (members_back no_members ms (AllUnder-none ms) h)

  items_back : (ds : Items) → AreStored ds → of_items (items_outline ds) ≡ Some ds
  items_back no_items h = refl
  items_back (item d ds) h =
      ap (option_and_then (λ x. option_map (item x) (of_items (items_outline ds)))) (outline_back d h.0) ∙ ap (option_map (item d)) (items_back ds h.1)

  members_back : (done ms : Members) → AllUnder done ms → MembersAreStored ms → of_members (members_outline ms) done ≡ Some (joined done ms)
  members_back done no_members u h = ap Some (sym (joined_end done))
  members_back done (member k d ms) u h =
      ap (option_and_then (λ x. of_members (members_outline ms) (put k x done))) (outline_back d h.2)
      ∙ ap (of_members (members_outline ms)) (put_after done k d u.0)
      ∙ members_back (joined done (member k d no_members)) ms (AllUnder-joined done ms k d u.1 h.1) h.3
      ∙ ap Some (joined_more done ms k d)

-- ---- the text's numbers are numbers, and its nesting is the value's

number_is : (n : Num) → IsWhole n → IsNumber (number_text n)
number_is (unsigned n) h = IsNumber-decimal n h
number_is (negative (pos n)) h = absurd h
number_is (negative (negsuc n)) h = IsNumber-signed_decimal (negsuc n) (omega arith)
number_is (float x) h = absurd h

mutual
  has_numbers : (d : Data) → IsStored d → tree.HasNumbers (outline d)
  has_numbers null h = tt
  has_numbers (boolean b) h = tt
  has_numbers (number n) h = number_is n h
  has_numbers (string s) h = tt
  has_numbers (array ds) h = items_have_numbers ds h
  has_numbers (object ms) h = members_have_numbers ms h

  items_have_numbers : (ds : Items) → AreStored ds → tree.ItemsHaveNumbers (items_outline ds)
  items_have_numbers no_items h = tt
  items_have_numbers (item d ds) h = (has_numbers d h.0, items_have_numbers ds h.1)

  members_have_numbers : (ms : Members) → MembersAreStored ms → tree.MembersHaveNumbers (members_outline ms)
  members_have_numbers no_members h = tt
  members_have_numbers (member k d ms) h = (has_numbers d h.2, members_have_numbers ms h.3)

mutual
  same_depth : (d : Data) → tree.depth (outline d) ≡ depth d
  same_depth null = refl
  same_depth (boolean b) = refl
  same_depth (number n) = refl
  same_depth (string s) = refl
  same_depth (array ds) = ap suc (items_same_depth ds)
  same_depth (object ms) = ap suc (members_same_depth ms)

  items_same_depth : (ds : Items) → tree.items_depth (items_outline ds) ≡ items_depth ds
  items_same_depth no_items = refl
  items_same_depth (item d ds) = ap₂ max (same_depth d) (items_same_depth ds)

  members_same_depth : (ms : Members) → tree.members_depth (members_outline ms) ≡ members_depth ms
  members_same_depth no_members = refl
  members_same_depth (member k d ms) = ap₂ max (same_depth d) (members_same_depth ms)

pub read_line : (d : Data) → IsStored d → depth d ≤ max_depth → read (compact_text d) ≡ Some d
read_line d h shallow =
    let j = outline d in
    let lexed : tokens (compact_text d) ≡ tree.json_tokens j = ap tokens (sym (print-outline d)) ∙ tokens-print (tree.json_tokens j) (ArePrintable-json_tokens j (has_numbers d h)) in
    let parsed : json.value max_depth (tokens (compact_text d)) ≡ Some (j, []) =
    ap (json.value max_depth) (lexed ∙ sym (append-nil _)) ∙ value-json_tokens j max_depth [] (omega (arith, same_depth d)) in
    ap (λ o. option_and_then of_json (option_and_then (λ p. json.if_last p.0 p.1) o)) parsed ∙ outline_back d h

-- ---- the text is UTF-8

number_utf8 : (n : Num) → IsWhole n → IsUtf8 (number_text n)
number_utf8 (unsigned n) h = IsUtf8-from_ascii _ (IsAscii-decimal n h)
number_utf8 (negative (pos n)) h = absurd h
number_utf8 (negative (negsuc n)) h = IsUtf8-from_ascii _ (IsAscii-signed (negsuc n) (omega arith))
number_utf8 (float x) h = absurd h

comma_utf8 : (later : Bool) → IsUtf8 (comma_if later)
comma_utf8 true = IsUtf8-are_ascii (44 ∷ []) refl
comma_utf8 false = IsUtf8-nil

mutual
  text_utf8 : (d : Data) → IsStored d → IsUtf8 (compact_text d)
  text_utf8 null h = IsUtf8-are_ascii _ refl
  text_utf8 (boolean b) h = IsUtf8-boolean b
  text_utf8 (number n) h = number_utf8 n h
  text_utf8 (string s) h = IsUtf8-quoted s h
  text_utf8 (array ds) h = IsUtf8-append (91 ∷ []) _ (IsUtf8-are_ascii (91 ∷ []) refl) (items_utf8 false ds h)
  text_utf8 (object ms) h = IsUtf8-append (123 ∷ []) _ (IsUtf8-are_ascii (123 ∷ []) refl) (members_utf8 false ms h)

  items_utf8 : (later : Bool) (ds : Items) → AreStored ds → IsUtf8 (items_text later ds)
  items_utf8 later no_items h = IsUtf8-are_ascii (93 ∷ []) refl
  items_utf8 later (item d ds) h = IsUtf8-append _ _ (comma_utf8 later) (IsUtf8-append _ _ (text_utf8 d h.0) (items_utf8 true ds h.1))

  members_utf8 : (later : Bool) (ms : Members) → MembersAreStored ms → IsUtf8 (members_text later ms)
  members_utf8 later no_members h = IsUtf8-are_ascii (125 ∷ []) refl
  members_utf8 later (member k d ms) h =
      IsUtf8-append _ _ (comma_utf8 later) (IsUtf8-append (quoted k) _ (IsUtf8-quoted k h.0) (IsUtf8-append (58 ∷ []) _ (IsUtf8-are_ascii (58 ∷ []) refl) (IsUtf8-append _ _ (text_utf8 d h.2) (members_utf8 true ms h.3))))

-- ---- a tree is the reading of its data

abbrev ComesBack : Tree → Type 0
ComesBack x = tree_of (data_of x) ≡ Ok x

number_comes_back : (z : ℤ) → tree_of_number (of_integer z) ≡ Ok (t.Num z)
number_comes_back (pos n) = refl
number_comes_back (negsuc n) = refl

abbrev Back : Type 0
Back = (x : Tree) × ComesBack x

trees_back : (place : ℕ) (ys : List Back) → trees_of place (items_of (map data_of (map (λ e. e.0) ys))) ≡ Ok (map (λ e. e.0) ys)
trees_back place [] = refl
trees_back place (y ∷ ys) = rw (y.1, trees_back (place + 1) ys)

abbrev tree_member : List ℕ × Back → List ℕ × Tree
tree_member m = (m.0, m.1.0)

members_come_back : (ys : List (List ℕ × Back)) → members_of (named (map data_member (map tree_member ys))) ≡ Ok (map tree_member ys)
members_come_back [] = refl
members_come_back (y ∷ ys) = rw (y.1.1, members_come_back ys)

-- one level, where what is inside comes back
layer_back : (y : Tree-F Back) → ComesBack (roll-Tree (map-Tree Back Tree (λ e. e.0) y))
layer_back Tree-F.Null = ap tree_of (fold-roll-Tree Data data_step Tree-F.Null) ∙ ap Ok (sym t.rolls-Null)
layer_back (Tree-F.Bool b) = ap tree_of (fold-roll-Tree Data data_step (Tree-F.Bool b)) ∙ ap Ok (sym (t.rolls-Bool b))
layer_back (Tree-F.Num z) = ap tree_of (fold-roll-Tree Data data_step (Tree-F.Num z)) ∙ number_comes_back z ∙ ap Ok (sym (t.rolls-Num z))
layer_back (Tree-F.Str s) = ap tree_of (fold-roll-Tree Data data_step (Tree-F.Str s)) ∙ ap Ok (sym (t.rolls-Str s))
layer_back (Tree-F.Arr ys) =
    let xs : List Tree = map (λ e. e.0) ys in
    ap tree_of (fold-roll-Tree Data data_step (Tree-F.Arr xs)) ∙ ap (map_reads t.Arr) (trees_back 0 ys) ∙ ap Ok (sym (t.rolls-Arr xs))
layer_back (Tree-F.Obj ys) =
    let xs : List (List ℕ × Tree) = map tree_member ys in
    ap tree_of (fold-roll-Tree Data data_step (Tree-F.Obj xs)) ∙ ap (map_reads t.Obj) (members_come_back ys) ∙ ap Ok (sym (t.rolls-Obj xs))

pub comes_back : (x : Tree) → ComesBack x
comes_back = ind-Tree ComesBack (λ x y is. subst (λ z. ComesBack (roll-Tree z)) is (layer_back y))

pub line_is_read : (x : Tree) → IsLine x → reading (compact_text (data_of x)) ≡ read_as x
line_is_read x h =
    let line = line_leads x h in
    reading_by (compact_text (data_of x)) (data_of x) (Ok x) (text_utf8 _ line.stored) (read_line _ line.stored line.nests) (comes_back x)
