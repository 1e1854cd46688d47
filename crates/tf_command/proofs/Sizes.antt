-- The tree of a line prints as a text that is no longer than the line.
use Rattle.std.proofs.Common.{◌≡◌, ℕ, ◌≤◌, false, cond, List, [], ◌∷◌, ◌++◌, length, Option, Some, None, Ok, Err, refl, sym, ap, ◌∙◌, arith, append-nil, is_some}
use Rattle.std.specs.Option.{option_and_then}
use Rattle.std.specs.Str.{is_utf8}
use Rattle.json.specs.Token.{Token}
use Rattle.json.specs.Lex.{tokens}
use Rattle.json.specs.Json as json
use Rattle.json.specs.Tree.{json_tokens}
use Rattle.json.proofs.Unique.Spelling.{value-json_tokens_back}
use Rattle.serde_json.specs.Data.{Data}
use Rattle.serde_json.specs.Find.{as_object}
use Rattle.serde_json.specs.Read.{of_json, max_depth, read}
use Rattle.serde_json.specs.Written.{compact_text}
use Rattle.tf_json.specs.Reading.{Reads, not_json, tree as read_as, tree_of, reading_of_tree, value_of}
use Rattle.tf_json.specs.Objects.{object_reading, object_reading_of}
use Rattle.tf_model.specs.Print.{printed}
use Rattle.tf_model.specs.declared.tree.Tree.{Tree}
use Rattle.tf_command.proofs.Lexing.{text_room}
use Rattle.tf_command.proofs.Options.{by_either, inside, tested}
use Rattle.tf_command.proofs.Rooms.{room, value_text}
use Rattle.tf_command.proofs.Texts.{printed_value}

last_is : (j k : json.Json) (ts : List Token) → json.if_last j ts ≡ Some k → (ts ≡ []) × (j ≡ k)
last_is j k [] e = (refl, cc)
last_is j k (t ∷ ts) e = absurd (cc)

value_room : (line : List ℕ) (d : Data) → value_of line ≡ Some d → length (compact_text d) ≤ length line
value_room line d e =
    let found = tested (is_utf8 line) (read line) d e in
    let made = inside of_json (option_and_then (λ p. json.if_last p.0 p.1) (json.value max_depth (tokens line))) d found.1 in
    let parsed = inside (λ p. json.if_last p.0 p.1) (json.value max_depth (tokens line)) made.0 made.1 in
    let p = parsed.0 in
    let last = last_is p.0 made.0 p.1 parsed.2 in
    let spelled : tokens line ≡ json_tokens p.0 ++ p.1 = value-json_tokens_back max_depth (tokens line) p.1 p.0 parsed.1 in
    let whole : tokens line ≡ json_tokens made.0 = spelled ∙ ap (λ ts. json_tokens p.0 ++ ts) last.0 ∙ append-nil (json_tokens p.0) ∙ ap json_tokens last.1 in
    omega (arith, value_text made.0 d made.2, ap (room false) whole, text_room line)

tree_is : (r : Reads Tree) (t : Tree) → reading_of_tree r ≡ read_as t → r ≡ Ok t
tree_is (Ok x) t e = cc
tree_is (Err place) t e = absurd (cc)

object_is : (o : Option Data) (t : Tree) → object_reading_of o ≡ read_as t → (d : Data) × (o ≡ Some d) × (tree_of d ≡ Ok t)
object_is None t e = absurd (cc)
object_is (Some d) t e =
    by_either (is_some (as_object d))
    (λ yes. (d, refl, tree_is (tree_of d) t (sym (ap (λ b. cond b (reading_of_tree (tree_of d)) not_json) yes) ∙ e)))
    (λ no. let wrong : not_json ≡ read_as t = sym (ap (λ b. cond b (reading_of_tree (tree_of d)) not_json) no) ∙ e in absurd (cc))

pub printed_room : (line : List ℕ) (t : Tree) → object_reading line ≡ read_as t → length (printed t) ≤ length line
printed_room line t e =
    let p = object_is (value_of line) t e in
    omega (arith, value_room line p.0 p.1, ap length (printed_value p.0 t p.2))
