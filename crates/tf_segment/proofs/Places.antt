-- The places of documents in full segments and a tail.
use Rattle.std.proofs.Common.{◌≡◌, ℕ, zero, suc, ◌+◌, ◌*◌, ◌<◌, ◌≤◌, List, [], ◌∷◌, ◌++◌, length, get_or, take, drop, All, sym, ap, subst, ◌∙◌, arith, append_assoc}
use Rattle.std.proofs.lemmas.List.{append-nil, length-append, length-take-le, get_or_append_left, get_or-append-add, take-append-le, take-append-drop, take-take, take_all}
use Rattle.std.proofs.lemmas.List.Concat.{flat_map-append}
use Rattle.std.proofs.lemmas.List.Elements.{All-head, All-tail, All-take}
use Rattle.std.specs.List.{flat_map}
use Rattle.tf_model.specs.declared.doc.Doc.{Doc}
use Rattle.tf_segment.specs.Segments.{IsFull, all_of}

abbrev pub joined : List (List Doc) → List Doc
joined segments = flat_map (λ segment. segment) segments

-- how many documents full segments have
pub length_joined : (segments : List (List Doc)) → All IsFull segments → length (joined segments) ≡ length segments * 1024
length_joined [] full = omega arith
length_joined (segment ∷ segments) full =
    let one : length segment ≡ 1024 = All-head IsFull segment segments full in
    let rest = length_joined segments (All-tail IsFull segment segments full) in
    let both = length-append segment (joined segments) in
    omega (arith, one, rest, both)

-- a place of a segment
pub in_segment : (segments : List (List Doc)) (tail : List Doc) (i j : ℕ) (d : Doc) → All IsFull segments → i < length segments → j < 1024
    → get_or (all_of segments tail) (i * 1024 + j) d ≡ get_or (get_or segments i []) j d
in_segment [] tail i j d full lt_i lt_j = absurd (omega arith)
in_segment (segment ∷ segments) tail zero j d full lt_i lt_j =
    let one : length segment ≡ 1024 = All-head IsFull segment segments full in
    let at : 0 * 1024 + j ≡ j = omega arith in
    ap (λ l. get_or l (0 * 1024 + j) d) (append_assoc segment (joined segments) tail)
    ∙ ap (λ k. get_or (segment ++ (joined segments ++ tail)) k d) at
    ∙ get_or_append_left segment (joined segments ++ tail) d j (omega (arith, one, lt_j))
in_segment (segment ∷ segments) tail (suc i) j d full lt_i lt_j =
    let one : length segment ≡ 1024 = All-head IsFull segment segments full in
    let at : suc i * 1024 + j ≡ length segment + (i * 1024 + j) = omega (arith, one) in
    ap (λ l. get_or l (suc i * 1024 + j) d) (append_assoc segment (joined segments) tail)
    ∙ ap (λ k. get_or (segment ++ (joined segments ++ tail)) k d) at
    ∙ get_or-append-add segment (joined segments ++ tail) (i * 1024 + j) d
    ∙ in_segment segments tail i j d (All-tail IsFull segment segments full) (omega (arith, lt_i)) lt_j

-- a place of the tail
pub in_tail : (segments : List (List Doc)) (tail : List Doc) (j : ℕ) (d : Doc) → All IsFull segments → get_or (all_of segments tail) (length segments * 1024 + j) d ≡ get_or tail j d
in_tail segments tail j d full =
    let long = length_joined segments full in
    ap (λ n. get_or (joined segments ++ tail) (n + j) d) (sym long) ∙ get_or-append-add (joined segments) tail j d

-- how many documents there are
pub length_all : (segments : List (List Doc)) (tail : List Doc) → All IsFull segments → length (all_of segments tail) ≡ length segments * 1024 + length tail
length_all segments tail full = length-append (joined segments) tail ∙ ap (λ n. n + length tail) (length_joined segments full)

take_past : (xs ys : List Doc) (n m : ℕ) → m ≡ length xs + n → take m (xs ++ ys) ≡ xs ++ take n ys
take_past [] ys n m is = let same : m ≡ n = omega (arith, is) in ap (λ k. take k ys) same
take_past (x ∷ xs) ys n zero is = absurd (omega (arith, is))
take_past (x ∷ xs) ys n (suc m) is = ap (λ l. x ∷ l) (take_past xs ys n m (omega (arith, is)))

-- what a run of the first documents needs: its segments are full, and it has enough documents
abbrev pub HasFirst : List (List Doc) → List Doc → ℕ → Type 0
HasFirst segments tail len = All IsFull segments × (len ≤ length (all_of segments tail))

module _ (segments : List (List Doc)) (full : All IsFull segments) (found : List (List Doc)) (rest : List Doc) where
  -- the first documents of segments of which so many have enough
  pub of_segments : (count len : ℕ) → count ≤ length segments → len ≤ count * 1024 → found ≡ take count segments → rest ≡ []
      → HasFirst found rest len × (take len (all_of found rest) ≡ take len (all_of segments []))
  of_segments count len few enough is_found is_rest =
      let all : All IsFull found = subst (All IsFull) (sym is_found) (All-take IsFull count segments full) in
      let many : length found ≡ count = ap length is_found ∙ length-take-le count segments few in
      let long = length_joined found all in
      let some : len ≤ length (joined found) = omega (arith, long, many, enough) in
      let split : joined segments ≡ joined found ++ joined (drop count segments) =
      ap joined (sym (take-append-drop count segments)) ∙ flat_map-append (λ segment. segment) (take count segments) (drop count segments)
      ∙ ap (λ l. joined l ++ joined (drop count segments)) (sym is_found) in (
        (all, omega (arith, some, length-append (joined found) rest)),
        take-append-le len (joined found) rest some
            ∙ sym (take-append-le len (joined found) (joined (drop count segments)) some)
            ∙ ap (take len) (sym split ∙ sym (append-nil (joined segments))),
      )

  -- the first documents of segments and a tail, where the segments have too few
  pub with_tail : (tail : List Doc) (left len : ℕ) → length segments * 1024 + left ≡ len → left ≤ length tail → found ≡ take (length segments) segments → rest ≡ take left tail
      → HasFirst found rest len × (take len (all_of found rest) ≡ take len (all_of segments tail))
  with_tail tail left len is within is_found is_rest =
      let same : found ≡ segments = is_found ∙ take_all (length segments) segments (omega arith) in
      let long = length_joined segments full in
      let long_rest : length rest ≡ left = ap length is_rest ∙ length-take-le left tail within in
      let at : len ≡ length (joined segments) + left = omega (arith, long, is) in
      let all = length_all segments rest full in (
        (subst (All IsFull) (sym same) full, subst (λ l. len ≤ length (all_of l rest)) (sym same) (omega (arith, all, long_rest, is))),
        (λ i. take len (all_of (same i) (is_rest i)))
            ∙ take_past (joined segments) (take left tail) left len at
            ∙ ap (λ l. joined segments ++ l) (take-take left left tail (omega arith))
            ∙ sym (take_past (joined segments) tail left len at),
      )

-- the first documents of segments that have enough
pub no_tail : (segments : List (List Doc)) (tail : List Doc) (len : ℕ) → All IsFull segments → len ≤ length segments * 1024 → take len (all_of segments []) ≡ take len (all_of segments tail)
no_tail segments tail len full enough =
    let long = length_joined segments full in
    ap (take len) (append-nil (joined segments)) ∙ sym (take-append-le len (joined segments) tail (omega (arith, long, enough)))
