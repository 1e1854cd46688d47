-- Runs, cut to the lengths that they had.
use Rattle.std.proofs.Common.{◌≡◌, ℕ, Bool, List, [], ◌∷◌, ◌++◌, length, map, take, drop, filter, refl, sym, ap, ◌∙◌}
use Rattle.std.proofs.lemmas.List.{map-append, take-append-drop, take_at}
use Rattle.std.proofs.lemmas.List.Elements.{filter-append}
use Rattle.std.specs.List.{range_with_len}
use Rattle.tf_model.specs.declared.doc.Doc.{Doc}
use Rattle.tf_history.specs.LegalEntries.{is_in_shard}
use Rattle.tf_order.specs.Laws.{RunsAreToldByTheirLengths}
use Rattle.tf_order.specs.Shards.{cut_to, runs_of, shards_of}

-- cut to its own length, a run's front is that front
front_of : {X : Type 0} (p : X → Bool) (n : ℕ) (xs : List X) → take (length (filter p (take n xs))) (filter p xs) ≡ filter p (take n xs)
front_of p n xs =
    ap (take (length (filter p (take n xs)))) (ap (filter p) (sym (take-append-drop n xs)) ∙ filter-append p (take n xs) (drop n xs))
    ∙ take_at (filter p (take n xs)) (filter p (drop n xs)) (length (filter p (take n xs))) refl

-- behind runs that are made in the same way from the same numbers
cut_behind : (f g : ℕ → List Doc) → ((j : ℕ) → take (length (f j)) (g j) ≡ f j) → (js : List ℕ) (lens : List ℕ) (runs : List (List Doc))
    → cut_to (map length (map f js) ++ lens) (map g js ++ runs) ≡ map f js ++ cut_to lens runs
cut_behind f g front [] lens runs = refl
cut_behind f g front (j ∷ js) lens runs = λ i. front j i ∷ cut_behind f g front js lens runs i

pub runs_are_told_by_their_lengths : RunsAreToldByTheirLengths
runs_are_told_by_their_lengths count [] n docs = refl
runs_are_told_by_their_lengths count (index ∷ sources) n docs =
    let f = λ (shard : ℕ). filter (is_in_shard index shard) (take n docs) in
    let g = λ (shard : ℕ). filter (is_in_shard index shard) docs in
    ap (λ lens. cut_to lens (shards_of (count index) index docs ++ runs_of count sources docs)) (map-append length (shards_of (count index) index (take n docs)) (runs_of count sources (take n docs)))
    ∙ cut_behind f g (λ shard. front_of (is_in_shard index shard) n docs) (range_with_len 0 (count index)) (map length (runs_of count sources (take n docs))) (runs_of count sources docs)
    ∙ ap (λ runs. shards_of (count index) index (take n docs) ++ runs) (runs_are_told_by_their_lengths count sources n docs)
