-- The first documents of the tail as a segment.
use Rattle.std.proofs.Common.{◌≡◌, ℕ, ◌-◌, ◌≤◌, List, [], ◌∷◌, ◌++◌, length, take, drop, All, sym, ap, subst, ◌∙◌, arith, append_assoc}
use Rattle.std.proofs.lemmas.List.{append-nil, length-drop, length-map, length-take-le, take-append-drop, take_at, drop-map, map_push}
use Rattle.std.proofs.lemmas.List.Concat.{flat_map-append}
use Rattle.std.proofs.lemmas.List.Elements.{All-push}
use Rattle.std.specs.Arc.{arc_value}
use Rattle.std.specs.List.{flat_map}
use Rattle.std.specs.declared.alloc.Global.{Global}
use Rattle.std.specs.declared.sync.Arc.{Arc}
use Rattle.tf_model.specs.declared.doc.Doc.{Doc}
use Rattle.tf_segment.specs.Segments.{IsFull, all_of, shared}

-- the documents stay
pub sealed : (segments : List (List Doc)) (tail : List Doc) (n : ℕ) → all_of (segments ++ take n tail ∷ []) (drop n tail) ≡ all_of segments tail
sealed segments tail n =
    ap (λ l. l ++ drop n tail) (flat_map-append (λ segment. segment) segments (take n tail ∷ []) ∙ ap (λ l. flat_map (λ segment. segment) segments ++ l) (append-nil (take n tail)))
    ∙ append_assoc (flat_map (λ segment. segment) segments) (take n tail) (drop n tail)
    ∙ ap (λ l. flat_map (λ segment. segment) segments ++ l) (take-append-drop n tail)

-- what is left of the tail
left : {A : Type 0} (items : List A) (n m : ℕ) → n ≤ length items → m ≡ length items - n → take m (drop n items ++ take n items) ≡ drop n items
left items n m enough is = take_at (drop n items) (take n items) m (length-drop n items ∙ sym is)

-- the documents stay where the first of the tail go over to a segment
module _ (old_segments new_segments : List (Arc (List Doc) Global)) (old_tail new_tail : List (Arc Doc Global)) (segment : Arc (List Doc) Global) (m : ℕ)
    (pushed : new_segments ≡ old_segments ++ segment ∷ []) (first : arc_value segment ≡ take 1024 (shared old_tail)) (enough : 1024 ≤ length old_tail)
    (is : m ≡ length old_tail - 1024) (rest : new_tail ≡ take m (drop 1024 old_tail ++ take 1024 old_tail)) where
  segments_are : shared new_segments ≡ shared old_segments ++ take 1024 (shared old_tail) ∷ []
  segments_are = ap shared pushed ∙ map_push (λ s. arc_value s) old_segments segment ∙ ap (λ s. shared old_segments ++ s ∷ []) first

  tail_is : shared new_tail ≡ drop 1024 (shared old_tail)
  tail_is = ap shared (rest ∙ left old_tail 1024 m enough is) ∙ sym (drop-map (λ d. arc_value d) 1024 old_tail)

  pub docs_stay : all_of (shared new_segments) (shared new_tail) ≡ all_of (shared old_segments) (shared old_tail)
  docs_stay = (λ i. all_of (segments_are i) (tail_is i)) ∙ sealed (shared old_segments) (shared old_tail) 1024

  pub full_stay : All IsFull (shared old_segments) → All IsFull (shared new_segments)
  full_stay full =
      subst (All IsFull) (sym segments_are)
      (All-push IsFull (shared old_segments) (take 1024 (shared old_tail)) full
      (length-take-le 1024 (shared old_tail) (omega (arith, enough, length-map old_tail (λ d. arc_value d)))))

-- one document more in the tail
pub docs_push : (segments : List (List Doc)) (old_tail new_tail : List (Arc Doc Global)) (doc : Arc Doc Global) → new_tail ≡ old_tail ++ doc ∷ []
    → all_of segments (shared new_tail) ≡ all_of segments (shared old_tail) ++ arc_value doc ∷ []
docs_push segments old_tail new_tail doc is =
    ap (λ l. all_of segments (shared l)) is ∙ ap (λ l. all_of segments l) (map_push (λ d. arc_value d) old_tail doc)
    ∙ sym (append_assoc (flat_map (λ segment. segment) segments) (shared old_tail) (arc_value doc ∷ []))
