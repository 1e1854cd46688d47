-- The compact text of a value is no longer than the tokens that the value was read from, with the commas between them.
use Rattle.std.proofs.Common.{◌≡◌, ℕ, ◌+◌, ◌≤◌, ◌<◌, Bool, true, false, List, [], ◌∷◌, ◌++◌, length, Some, refl, ap, subst, arith, append_assoc, append-nil, length-append, option_map}
use Rattle.std.specs.Ordering.{nat_cmp, match_ordering}
use Rattle.std.specs.declared.cmp.Ordering.{Ordering}
use Rattle.std.specs.declared.cmp.Ordering.TheVariants.{Less, Equal, Greater}
use Rattle.std.specs.Cmp.Lexicographic.{slice_cmp}
use Rattle.json.specs.Token.{Token}
use Rattle.json.specs.Print.{token_text, quoted, ends}
use Rattle.json.specs.Tree.{json_tokens, items_tokens, members_tokens}
use Rattle.json.specs.Json as json
use Rattle.serde_json.specs.Data.{Data, null, boolean, number, string, array, object, Items, no_items, item, Members, no_members, member, put}
use Rattle.serde_json.specs.Read.{number_of, of_json, of_items, of_members}
use Rattle.serde_json.specs.Written.{comma_if, compact_text, items_text, members_text}
use Rattle.tf_command.proofs.Options.{inside, mapped}
use Rattle.tf_command.proofs.Numerals.{number_room}

-- whether a comma stands before a token, where a value stands before it
abbrev pub gap : Bool → Token → ℕ
gap false t = 0
gap true Token.begin_object = 1
gap true Token.end_object = 0
gap true Token.begin_array = 1
gap true Token.end_array = 0
gap true (Token.key s) = 1
gap true (Token.string s) = 1
gap true (Token.number s) = 1
gap true (Token.boolean b) = 1
gap true Token.null = 1
gap true Token.bad = 0

-- how many bytes tokens take with the commas between them
abbrev pub room : Bool → List Token → ℕ
room later [] = 0
room later (t ∷ ts) = gap later t + (length (token_text t) + room (ends t) ts)

-- ---- members, each with a comma

abbrev member_room : List ℕ → Data → ℕ
member_room k d = 2 + (length (quoted k) + length (compact_text d))

abbrev members_sum : Members → ℕ
members_sum no_members = 0
members_sum (member k d ms) = member_room k d + members_sum ms

put_by : (o : Ordering) (k l : List ℕ) (d e : Data) (ms : Members) → members_sum (put k d ms) ≤ member_room k d + members_sum ms
    → members_sum (match_ordering o (member k d (member l e ms)) (member l d ms) (member l e (put k d ms))) ≤ member_room k d + members_sum (member l e ms)
put_by Less k l d e ms rest = omega arith
put_by Equal k l d e ms rest = omega arith
put_by Greater k l d e ms rest = omega (arith, rest)

put_sum : (k : List ℕ) (d : Data) (ms : Members) → members_sum (put k d ms) ≤ member_room k d + members_sum ms
put_sum k d no_members = omega arith
put_sum k d (member l e ms) = put_by (slice_cmp nat_cmp k l) k l d e ms (put_sum k d ms)

some_by : (o : Ordering) (k l : List ℕ) (d e : Data) (ms more : Members)
    → 0 < members_sum (match_ordering o (member k d (member l e ms)) (member l d ms) (member l e more))
some_by Less k l d e ms more = omega arith
some_by Equal k l d e ms more = omega arith
some_by Greater k l d e ms more = omega arith

put_some : (k : List ℕ) (d : Data) (ms : Members) → 0 < members_sum (put k d ms)
put_some k d no_members = omega arith
put_some k d (member l e ms) = some_by (slice_cmp nat_cmp k l) k l d e ms (put k d ms)

found_some : (ms : json.Members) (found ds : Members) → of_members ms found ≡ Some ds → 0 < members_sum found → 0 < members_sum ds
found_some json.no_members found ds e some = let same : found ≡ ds = cc in subst (λ m. 0 < members_sum m) same some
found_some (json.member k j ms) found ds e some =
    let p = inside (λ d. of_members ms (put k d found)) (of_json j) ds e in
    found_some ms (put k p.0 found) ds p.2 (put_some k p.0 found)

member_text : (later : Bool) (k : List ℕ) (d : Data) (ms : Members)
    → length (members_text later (member k d ms)) ≡ length (comma_if later) + (length (quoted k) + (1 + (length (compact_text d) + length (members_text true ms))))
member_text later k d ms =
    omega (
      arith,
      length-append (comma_if later) (quoted k ++ 58 ∷ (compact_text d ++ members_text true ms)),
      length-append (quoted k) (58 ∷ (compact_text d ++ members_text true ms)),
      length-append (compact_text d) (members_text true ms),
    )

later_text : (ms : Members) → length (members_text true ms) ≡ members_sum ms + 1
later_text no_members = refl
later_text (member k d ms) = omega (arith, member_text true k d ms, later_text ms)

first_text : (ms : Members) → 0 < members_sum ms → length (members_text false ms) ≤ members_sum ms
first_text no_members some = absurd (omega (arith, some))
first_text (member k d ms) some = omega (arith, member_text false k d ms, later_text ms)

-- ---- values

abbrev Takes : Data → json.Json → Type 0
Takes d j = (later : Bool) (ts : List Token) → length (comma_if later) + length (compact_text d) + room true ts ≤ room later (json_tokens j ++ ts)

one_token : (d : Data) (t : Token) → length (compact_text d) ≤ length (token_text t) → gap true t ≡ 1 → ends t ≡ true
    → (later : Bool) (ts : List Token) → length (comma_if later) + length (compact_text d) + room true ts ≤ room later (t ∷ ts)
one_token d t text before after true ts = omega (arith, text, before, ap (λ b. room b ts) after)
one_token d t text before after false ts = omega (arith, text, ap (λ b. room b ts) after)

opens : (text : List ℕ) (t : Token) (d : Data) (tokens : List Token) → length (compact_text d) ≡ 1 + length text → length (token_text t) ≡ 1 → gap true t ≡ 1 → ends t ≡ false
    → (later : Bool) (ts : List Token) → length text + room true ts ≤ room false (tokens ++ ts)
    → length (comma_if later) + length (compact_text d) + room true ts ≤ room later (t ∷ (tokens ++ ts))
opens text t d tokens size one before after true ts rest = omega (arith, size, one, before, rest, ap (λ b. room b (tokens ++ ts)) after)
opens text t d tokens size one before after false ts rest = omega (arith, size, one, rest, ap (λ b. room b (tokens ++ ts)) after)

end_array_room : (later : Bool) (ts : List Token) → 1 + room true ts ≤ room later (Token.end_array ∷ ts)
end_array_room true ts = omega arith
end_array_room false ts = omega arith

mutual
  value_room : (j : json.Json) (d : Data) → of_json j ≡ Some d → Takes d j
  value_room json.null d e = let same : null ≡ d = cc in subst (λ x. Takes x json.null) same (one_token null Token.null (omega arith) refl refl)
  value_room (json.boolean b) d e =
      let same : boolean b ≡ d = cc in subst (λ x. Takes x (json.boolean b)) same (one_token (boolean b) (Token.boolean b) (omega arith) refl refl)
  value_room (json.number s) d e =
      let p = mapped number (number_of s) d e in
      subst (λ x. Takes x (json.number s)) p.2 (one_token (number p.0) (Token.number s) (number_room s p.0 p.1) refl refl)
  value_room (json.string s) d e =
      let same : string s ≡ d = cc in subst (λ x. Takes x (json.string s)) same (one_token (string s) (Token.string s) (omega arith) refl refl)
  value_room (json.array js) d e =
      let p = mapped array (of_items js) d e in
      subst (λ x. Takes x (json.array js)) p.2
      (λ later ts. opens (items_text false p.0) Token.begin_array (array p.0) (items_tokens js) (omega arith) refl refl refl later ts (items_room js p.0 p.1 false ts))
  value_room (json.object ms) d e =
      let p = mapped object (of_members ms no_members) d e in
      subst (λ x. Takes x (json.object ms)) p.2
      (λ later ts. opens (members_text false p.0) Token.begin_object (object p.0) (members_tokens ms) (omega arith) refl refl refl later ts (object_room ms p.0 p.1 ts))

  items_room : (js : json.Items) (ds : Items) → of_items js ≡ Some ds → (later : Bool) (ts : List Token) → length (items_text later ds) + room true ts ≤ room later (items_tokens js ++ ts)
  items_room json.no_items ds e later ts =
      let same : no_items ≡ ds = cc in
      subst (λ x. length (items_text later x) + room true ts ≤ room later (Token.end_array ∷ ts)) same (end_array_room later ts)
  items_room (json.item j js) ds e later ts =
      let one = inside (λ d. option_map (item d) (of_items js)) (of_json j) ds e in
      let more = mapped (item one.0) (of_items js) ds one.2 in
      subst (λ x. length (items_text later x) + room true ts ≤ room later ((json_tokens j ++ items_tokens js) ++ ts)) more.2
      (omega (
        arith,
        length-append (comma_if later) (compact_text one.0 ++ items_text true more.0),
        length-append (compact_text one.0) (items_text true more.0),
        ap (room later) (append_assoc (json_tokens j) (items_tokens js) ts),
        value_room j one.0 one.1 later (items_tokens js ++ ts),
        items_room js more.0 more.1 true ts,
      ))

  members_room : (ms : json.Members) (found ds : Members) → of_members ms found ≡ Some ds → (ts : List Token)
      → members_sum ds + 1 + room true ts ≤ members_sum found + room true (members_tokens ms ++ ts)
  members_room json.no_members found ds e ts =
      let same : found ≡ ds = cc in
      subst (λ m. members_sum m + 1 + room true ts ≤ members_sum found + room true (Token.end_object ∷ ts)) same (omega arith)
  members_room (json.member k j ms) found ds e ts =
      let p = inside (λ d. of_members ms (put k d found)) (of_json j) ds e in
      omega (
        arith,
        members_room ms (put k p.0 found) ds p.2 ts,
        put_sum k p.0 found,
        value_room j p.0 p.1 false (members_tokens ms ++ ts),
        length-append (quoted k) (58 ∷ []),
        ap (room false) (append_assoc (json_tokens j) (members_tokens ms) ts),
      )

  object_room : (ms : json.Members) (ds : Members) → of_members ms no_members ≡ Some ds → (ts : List Token) → length (members_text false ds) + room true ts ≤ room false (members_tokens ms ++ ts)
  object_room json.no_members ds e ts =
      let same : no_members ≡ ds = cc in
      subst (λ x. length (members_text false x) + room true ts ≤ room false (Token.end_object ∷ ts)) same (omega arith)
  object_room (json.member k j ms) ds e ts =
      let p = inside (λ d. of_members ms (put k d no_members)) (of_json j) ds e in
      omega (
        arith,
        members_room ms (put k p.0 no_members) ds p.2 ts,
        put_sum k p.0 no_members,
        value_room j p.0 p.1 false (members_tokens ms ++ ts),
        length-append (quoted k) (58 ∷ []),
        ap (room false) (append_assoc (json_tokens j) (members_tokens ms) ts),
        first_text ds (found_some ms (put k p.0 no_members) ds p.2 (put_some k p.0 no_members)),
      )

pub value_text : (j : json.Json) (d : Data) → of_json j ≡ Some d → length (compact_text d) ≤ room false (json_tokens j)
value_text j d e = omega (arith, value_room j d e false [], ap (room false) (append-nil (json_tokens j)))
