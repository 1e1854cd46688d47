-- The least of texts is there where there is a text.
use Rattle.std.proofs.Common.{◌≡◌, ℕ, Bool, true, false, cond, List, [], ◌∷◌, Option, Some, None, refl}
use Rattle.std.specs.Prelude.{is_some}
use Rattle.std.specs.Cmp.Lexicographic.{slice_cmp}
use Rattle.std.specs.List.{fold}
use Rattle.std.specs.Ordering.{nat_cmp, is_lt}
use Rattle.tf_mapping.specs.Least.{lesser_text, least_text}

either : (b : Bool) (text least : List ℕ) (texts : List (List ℕ)) → ((start : List ℕ) → is_some (fold lesser_text (Some start) texts) ≡ true)
    → is_some (fold lesser_text (cond b (Some text) (Some least)) texts) ≡ true
either true text least texts stays = stays text
either false text least texts stays = stays least

least_stays : (least : List ℕ) (texts : List (List ℕ)) → is_some (fold lesser_text (Some least) texts) ≡ true
least_stays least [] = refl
least_stays least (text ∷ texts) = either (is_lt (slice_cmp nat_cmp text least)) text least texts (λ start. least_stays start texts)

pub least_there : (least : Option (List ℕ)) (text : List ℕ) (texts : List (List ℕ)) → is_some (fold lesser_text (lesser_text least text) texts) ≡ true
least_there None text texts = least_stays text texts
least_there (Some least) text texts = least_stays least (text ∷ texts)

pub not_none : (o : Option (List ℕ)) → is_some o ≡ true → o ≡ None → ⊥
not_none (Some name) there none = cc
not_none None there none = cc

pub none_least : (texts : List (List ℕ)) → least_text texts ≡ None → texts ≡ []
none_least [] none = refl
none_least (text ∷ texts) none = absurd (not_none (fold lesser_text (Some text) texts) (least_there None text texts) none)
