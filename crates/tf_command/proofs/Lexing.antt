-- The lexemes of a text are no longer than the text, and the tokens no longer than the lexemes.
use Rattle.std.proofs.Common.{◌≡◌, ℕ, ◌+◌, ◌≤◌, Bool, true, false, cond, ◌==◌, List, [], ◌∷◌, length, Option, Some, None, refl, ap, arith, length-append}
use Rattle.json.specs.Token.{Token}
use Rattle.json.specs.Text.{content, plain}
use Rattle.json.specs.Ascii as ascii
use Rattle.json.specs.Print.{token_text, quoted, escape, ends}
use Rattle.json.specs.Align.{span_byte, span}
use Rattle.json.specs.Lex.{Lexeme, token, comma, colon, Class, quote, backslash, operator, space, other, class, operator_lexeme, string_token, Mode, between, in_word, in_string, in_escape, lex_byte, lex}
use Rattle.json.specs.Lex.{Place, fresh, after_value, after_comma, after_key, begins_colon, may_begin, may_close, if_allowed, place_token, punctuate, tokens}
use Rattle.tf_command.proofs.Escapes.{IsUnder, content_room}
use Rattle.tf_command.proofs.Rooms.{gap, room}
use Rattle.tf_command.proofs.Words.{word_byte, word_len, word_room}

-- ---- lexemes

abbrev weight : Lexeme → ℕ
weight (token t) = length (token_text t)
weight comma = 1
weight colon = 1

abbrev weights : List Lexeme → ℕ
weights [] = 0
weights (l ∷ ls) = weight l + weights ls

operator_by : (a b c d e : Bool) → weight (cond a (token Token.begin_object) (cond b (token Token.end_object) (cond c (token Token.begin_array) (cond d (token Token.end_array) (cond e comma colon))))) ≤ 1
operator_by true b c d e = omega arith
operator_by false true c d e = omega arith
operator_by false false true d e = omega arith
operator_by false false false true e = omega arith
operator_by false false false false true = omega arith
operator_by false false false false false = omega arith

operator_weight : (x : ℕ) → weight (operator_lexeme x) ≤ 1
operator_weight x = operator_by (x == ascii.open_brace) (x == ascii.close_brace) (x == ascii.open_bracket) (x == ascii.close_bracket) (x == ascii.comma)

string_weight : (o : Option (List ℕ)) (n : ℕ) → IsUnder n o → length (token_text (string_token o)) ≤ 1 + n
string_weight None n h = omega arith
string_weight (Some s) n h = omega (arith, h, length-append (escape s) (34 ∷ []))

-- what of the text a lexeme that was told before has still to pass over
abbrev spent_byte : Mode → Class → List ℕ → ℕ
spent_byte between c xs = 0
spent_byte in_word c xs = word_byte c (word_len xs)
spent_byte in_string c xs = span_byte in_string c (λ n. span n xs)
spent_byte in_escape c xs = span_byte in_escape c (λ n. span n xs)

abbrev spent : Mode → List ℕ → ℕ
spent between xs = 0
spent in_word xs = word_len xs
spent in_string xs = span in_string xs
spent in_escape xs = span in_escape xs

abbrev Lexed : Mode → List ℕ → Type 0
Lexed m xs = weights (lex m xs) + spent m xs ≤ length xs

by_class : (m : Mode) (c : Class) (x : ℕ) (xs : List ℕ) → class x ≡ c → ((n : Mode) → Lexed n xs) → weights (lex_byte m c x xs (λ n. lex n xs)) + spent_byte m c xs ≤ 1 + length xs
by_class between quote x xs k rest = omega (arith, string_weight (content plain xs) (0 + span in_string xs) (content_room plain xs), rest in_string)
by_class between backslash x xs k rest = omega (arith, rest in_word)
by_class between operator x xs k rest = omega (arith, operator_weight x, rest between)
by_class between space x xs k rest = omega (arith, rest between)
by_class between other x xs k rest = omega (arith, word_room (x ∷ xs), ap (λ c. word_byte c (word_len xs)) k, rest in_word)
by_class in_word quote x xs k rest = omega (arith, rest in_word)
by_class in_word backslash x xs k rest = omega (arith, rest in_word)
by_class in_word operator x xs k rest = omega (arith, operator_weight x, rest between)
by_class in_word space x xs k rest = omega (arith, rest between)
by_class in_word other x xs k rest = omega (arith, rest in_word)
by_class in_string quote x xs k rest = omega (arith, rest between)
by_class in_string backslash x xs k rest = omega (arith, rest in_escape)
by_class in_string operator x xs k rest = omega (arith, rest in_string)
by_class in_string space x xs k rest = omega (arith, rest in_string)
by_class in_string other x xs k rest = omega (arith, rest in_string)
by_class in_escape quote x xs k rest = omega (arith, rest in_string)
by_class in_escape backslash x xs k rest = omega (arith, rest in_string)
by_class in_escape operator x xs k rest = omega (arith, rest in_string)
by_class in_escape space x xs k rest = omega (arith, rest in_string)
by_class in_escape other x xs k rest = omega (arith, rest in_string)

lexed : (xs : List ℕ) (m : Mode) → Lexed m xs
unfolding lex span
lexed [] between = omega arith
lexed [] in_word = omega arith
lexed [] in_string = omega arith
lexed [] in_escape = omega arith
lexed (x ∷ xs) between = omega (arith, by_class between (class x) x xs refl (lexed xs))
lexed (x ∷ xs) in_word = omega (arith, by_class in_word (class x) x xs refl (lexed xs))
lexed (x ∷ xs) in_string = omega (arith, by_class in_string (class x) x xs refl (lexed xs))
lexed (x ∷ xs) in_escape = omega (arith, by_class in_escape (class x) x xs refl (lexed xs))

-- ---- tokens

abbrev later : Place → Bool
later fresh = false
later after_value = true
later after_comma = true
later after_key = false

-- a comma that was read before
abbrev paid : Place → ℕ
paid fresh = 0
paid after_value = 0
paid after_comma = 1
paid after_key = 0

-- behind a key stands its colon, which is counted with the key
abbrev Placed : Place → List Lexeme → Type 0
Placed fresh ls = room false (punctuate fresh ls) ≤ weights ls
Placed after_value ls = room true (punctuate after_value ls) ≤ weights ls
Placed after_comma ls = room true (punctuate after_comma ls) ≤ 1 + weights ls
Placed after_key ls = begins_colon ls ≡ true → 1 + room false (punctuate after_key ls) ≤ weights ls

begins : (p : Place) (t : Token) (next : Place) (ls : List Lexeme) (n : ℕ) → gap true t ≡ 1 → later next ≡ ends t → length (token_text t) + room (ends t) (punctuate next ls) ≤ n
    → room (later p) (if_allowed (may_begin p) t (λ q. punctuate q ls) next) ≤ paid p + n
begins fresh t next ls n g e h = omega (arith, h)
begins after_value t next ls n g e h = omega arith
begins after_comma t next ls n g e h = omega (arith, g, h)
begins after_key t next ls n g e h = omega arith

closes : (p : Place) (t : Token) (ls : List Lexeme) (n : ℕ) → gap true t ≡ 0 → length (token_text t) + room (ends t) (punctuate after_value ls) ≤ n
    → room (later p) (if_allowed (may_close p) t (λ q. punctuate q ls) after_value) ≤ paid p + n
closes fresh t ls n g h = omega (arith, h)
closes after_value t ls n g h = omega (arith, g, h)
closes after_comma t ls n g h = omega arith
closes after_key t ls n g h = omega arith

string_placed : (p : Place) (s : List ℕ) (b : Bool) (ls : List Lexeme) → begins_colon ls ≡ b → ((q : Place) → Placed q ls)
    → room (later p) (place_token p (Token.string s) b (λ q. punctuate q ls)) ≤ paid p + (length (quoted s) + weights ls)
string_placed p s true ls e rest =
    begins p (Token.key s) after_key ls (length (quoted s) + weights ls) refl refl (omega (arith, length-append (quoted s) (58 ∷ []), rest after_key e))
string_placed p s false ls e rest = begins p (Token.string s) after_value ls (length (quoted s) + weights ls) refl refl (omega (arith, rest after_value))

bad_placed : (p : Place) (n : ℕ) → room (later p) (Token.bad ∷ []) ≤ n
bad_placed fresh n = omega arith
bad_placed after_value n = omega arith
bad_placed after_comma n = omega arith
bad_placed after_key n = omega arith

token_placed : (p : Place) (t : Token) (ls : List Lexeme) → ((q : Place) → Placed q ls)
    → room (later p) (place_token p t (begins_colon ls) (λ q. punctuate q ls)) ≤ paid p + (length (token_text t) + weights ls)
token_placed p Token.begin_object ls rest = begins p Token.begin_object fresh ls (1 + weights ls) refl refl (omega (arith, rest fresh))
token_placed p Token.end_object ls rest = closes p Token.end_object ls (1 + weights ls) refl (omega (arith, rest after_value))
token_placed p Token.begin_array ls rest = begins p Token.begin_array fresh ls (1 + weights ls) refl refl (omega (arith, rest fresh))
token_placed p Token.end_array ls rest = closes p Token.end_array ls (1 + weights ls) refl (omega (arith, rest after_value))
token_placed p (Token.key s) ls rest = bad_placed p _
token_placed p (Token.string s) ls rest = string_placed p s (begins_colon ls) ls refl rest
token_placed p (Token.number s) ls rest = begins p (Token.number s) after_value ls (length s + weights ls) refl refl (omega (arith, rest after_value))
token_placed p (Token.boolean b) ls rest = begins p (Token.boolean b) after_value ls (length (token_text (Token.boolean b)) + weights ls) refl refl (omega (arith, rest after_value))
token_placed p Token.null ls rest = begins p Token.null after_value ls (4 + weights ls) refl refl (omega (arith, rest after_value))
token_placed p Token.bad ls rest = bad_placed p _

punctuated : (ls : List Lexeme) (p : Place) → Placed p ls
unfolding punctuate
punctuated [] fresh = omega arith
punctuated [] after_value = omega arith
punctuated [] after_comma = omega arith
punctuated [] after_key = λ e. absurd (cc)
punctuated (token t ∷ ls) fresh = omega (arith, token_placed fresh t ls (punctuated ls))
punctuated (token t ∷ ls) after_value = omega (arith, token_placed after_value t ls (punctuated ls))
punctuated (token t ∷ ls) after_comma = omega (arith, token_placed after_comma t ls (punctuated ls))
punctuated (token t ∷ ls) after_key = λ e. absurd (cc)
punctuated (comma ∷ ls) fresh = omega arith
punctuated (comma ∷ ls) after_value = omega (arith, punctuated ls after_comma)
punctuated (comma ∷ ls) after_comma = omega arith
punctuated (comma ∷ ls) after_key = λ e. absurd (cc)
punctuated (colon ∷ ls) fresh = omega arith
punctuated (colon ∷ ls) after_value = omega arith
punctuated (colon ∷ ls) after_comma = omega arith
punctuated (colon ∷ ls) after_key = λ e. omega (arith, punctuated ls fresh)

pub text_room : (text : List ℕ) → room false (tokens text) ≤ length text
text_room text = omega (arith, punctuated (lex between text) fresh, lexed text between)
