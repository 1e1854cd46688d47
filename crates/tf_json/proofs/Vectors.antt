-- Readings of lines, by computing them.
use Rattle.std.proofs.Common.{◌≡◌, [], ◌∷◌, codes, pos, refl}
use Rattle.std.specs.Str.{is_utf8, chars}
use Rattle.std.specs.Fmt.{digits}
use Rattle.serde_json.proofs.OnLiterals.{serde_json_on_literals}
use Rattle.tf_json.specs.Reading.{reading, not_json, fraction, tree}
use Rattle.tf_model.specs.declared.tree.Tree.TheVariants as t

fraction_in_an_array : reading (codes "{\"b\":1,\"a\":[2e0]}") ≡ fraction (codes "a.0")
unfolding serde_json_on_literals is_utf8 chars digits
fraction_in_an_array = refl

minus_zero : reading (codes "-0") ≡ fraction []
unfolding serde_json_on_literals is_utf8 chars digits
minus_zero = refl

greatest_number : reading (codes "18446744073709551615") ≡ tree (t.Num (pos 18446744073709551615))
unfolding serde_json_on_literals is_utf8 chars digits
greatest_number = refl

beyond_the_greatest : reading (codes "18446744073709551616") ≡ fraction []
unfolding serde_json_on_literals is_utf8 chars digits
beyond_the_greatest = refl

beyond_floats : reading (codes "1e400") ≡ not_json
unfolding serde_json_on_literals is_utf8 chars digits
beyond_floats = refl

last_of_equal_names : reading (codes "{\"b\":1.5,\"a\":2,\"b\":3}") ≡ tree (t.Obj ((codes "a", t.Num (pos 2)) ∷ (codes "b", t.Num (pos 3)) ∷ []))
unfolding serde_json_on_literals is_utf8 chars digits
last_of_equal_names = refl

open_brace : reading (codes "{") ≡ not_json
unfolding serde_json_on_literals is_utf8 chars digits
open_brace = refl

no_utf8 : reading (255 ∷ []) ≡ not_json
unfolding serde_json_on_literals is_utf8 chars digits
no_utf8 = refl
