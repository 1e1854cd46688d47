-- Names beside values, where one of the two lists has come to its end.
use Rattle.std.proofs.Common.{◌≡◌, ◌⊎◌, inl, inr, ℕ, Bool, List, [], ◌∷◌, ◌++◌, map, append-nil, sym, ap, ◌∙◌, refl}
use Rattle.std.specs.List.{zip}
use Rattle.tf_model.specs.declared.tree.Tree.{Tree}
use Rattle.tf_model.specs.declared.value.Value.{Value}
use Rattle.tf_reply.specs.Objects.{Member}
use Rattle.tf_reply.specs.Sources.{shown}

no_values : (names : List (List ℕ)) → zip {X = Tree} names [] ≡ []
no_values [] = refl
no_values (name ∷ names) = refl

pub ended : {T : Type 0} (name_of : T → List ℕ) (epoch_millis : Bool) (named : List T) (values : List Value) (members all : List Member) → (named ≡ []) ⊎ (values ≡ [])
    → members ++ zip (map name_of named) (map (shown epoch_millis) values) ≡ all → members ≡ all
ended name_of epoch_millis named values members all (inl none) so_far =
    sym (append-nil members) ∙ ap (λ l. members ++ zip (map name_of l) (map (shown epoch_millis) values)) (sym none) ∙ so_far
ended name_of epoch_millis named values members all (inr none) so_far =
    sym (append-nil members) ∙ ap (λ l. members ++ l) (sym (no_values (map name_of named)))
    ∙ ap (λ l. members ++ zip (map name_of named) (map (shown epoch_millis) l)) (sym none) ∙ so_far
