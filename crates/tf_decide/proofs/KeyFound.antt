-- The key that an array is.
use Rattle.std.proofs.Common.{◌≡◌, Option, Some, None, refl, sym}
use Rattle.tf_model.specs.declared.config.Config.{Config}
use Rattle.tf_model.specs.declared.query.Mapping.{Mapping}
use Rattle.tf_model.specs.declared.tree.Tree.{Tree}
use Rattle.tf_model.specs.declared.value.Key.{Key}
use Rattle.tf_group.specs.Reading.{IsTheKey, key_in}
use Rattle.tf_group.proofs.KeyLaws.{the_key}

-- there is no other
one_key : (c : Config) (fields : Mapping) (t : Tree) (found other : Option Key) → IsTheKey c fields t found → IsTheKey c fields t other → found ≡ other
one_key c fields t None None h g = refl
one_key c fields t None (Some key) h g = (h key).0 ((g key).1 refl)
one_key c fields t (Some key) other h g = sym ((g key).0 ((h key).1 refl))

pub found_key : (c : Config) (fields : Mapping) (t : Tree) (found : Option Key) → IsTheKey c fields t found → found ≡ key_in c fields t
found_key c fields t found h = one_key c fields t found (key_in c fields t) h (the_key c fields t)
