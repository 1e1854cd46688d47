-- The texts inside a tree that was read from a line have a spelling.
use Rattle.std.proofs.Common.{◌≡◌, ℕ, ◌≤◌, List, [], ◌∷◌, Option, Some, None, IsUtf8, refl, arith}
use Rattle.std.specs.Prelude.{length, IfSome}
use Rattle.std.specs.List.{AllByRecursion}
use Rattle.tf_model.specs.declared.tree.Tree.{Tree}
use Rattle.tf_model.specs.Trees.{member_at, member_of, members_in, text_in}
use Rattle.tf_command.specs.Commands.{max_line}
use Rattle.tf_command.specs.Formed.{IsKept}
use Rattle.tf_command.proofs.LineParts.{kept_at, kept_members, names_of_members, names_short, text_short, text_utf8}
use Rattle.tf_command.proofs.Options.{inside}
use Rattle.tf_event.specs.Spelling.{FitsText}

pub text_fits : (t : Tree) (text : List ℕ) → IsKept t → text_in t ≡ Some text → FitsText text
text_fits t text kept is =
    let short = text_short max_line t text kept.1 is in
    (omega (arith, short), text_utf8 t text kept.0 is)

names_fit : (members : List (List ℕ × Tree)) → AllByRecursion (λ m. length m.0 ≤ max_line) members → AllByRecursion (λ m. IsUtf8 m.0) members
    → AllByRecursion (λ m. FitsText m.0) members
names_fit [] short utf8 = tt
names_fit (m ∷ members) short utf8 = ((omega (arith, short.0), utf8.0), names_fit members short.1 utf8.1)

pub member_names_fit : (t : Tree) (members : List (List ℕ × Tree)) → IsKept t → members_in t ≡ Some members → AllByRecursion (λ m. FitsText m.0) members
member_names_fit t members kept is = names_fit members (names_short max_line t members kept.1 is) (names_of_members t members kept.0 is).utf8

pub kept_member : (t : Tree) (name : List ℕ) (inner : Tree) → IsKept t → member_of t name ≡ Some inner → IsKept inner
kept_member t name inner kept is =
    let found = inside (λ members. member_at members name) (members_in t) inner is in
    kept_at name found.0 inner (kept_members t found.0 kept found.1) found.2

if_kept : (t : Tree) (name : List ℕ) (o : Option Tree) → IsKept t → member_of t name ≡ o → IfSome o IsKept
if_kept t name None kept is = tt
if_kept t name (Some inner) kept is = kept_member t name inner kept is

-- the member with a name is kept, where there is one
pub member_kept : (t : Tree) (name : List ℕ) → IsKept t → IfSome (member_of t name) IsKept
member_kept t name kept = if_kept t name (member_of t name) kept refl
