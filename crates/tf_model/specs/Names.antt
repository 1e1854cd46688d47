-- Well-formed names.
use Rattle.std.specs.Prelude.{ℕ, ◌-◌, ◌==◌, nat_le, Bool, true, false, not, ◌&&◌, ◌||◌, List, [], ◌∷◌, length, slice_index, if◌then◌else◌, codes}
use Rattle.std.specs.List.{list_all, list_any}
use Rattle.std.specs.Str.{bytes_eq}

abbrev pub is_between : ℕ → ℕ → ℕ → Bool
is_between low high n = nat_le low n && nat_le n high

-- a digit or a lower-case letter
abbrev pub is_letter_or_digit : ℕ → Bool
is_letter_or_digit byte = is_between 97 122 byte || is_between 48 57 byte

-- a letter, a digit, - (45) or _ (95)
abbrev pub is_id_byte : ℕ → Bool
is_id_byte byte = is_letter_or_digit byte || (byte == 45 || byte == 95)

-- A transform's id has 1 to 64 of a-z, 0-9, - and _, and begins and ends with a letter or digit.
unfoldable pub is_transform_id : List ℕ → Bool
is_transform_id name =
    is_between 1 64 (length name) && (list_all is_id_byte name && (is_letter_or_digit (slice_index name 0) && is_letter_or_digit (slice_index name (length name - 1))))

-- no upper-case letter, and none of \ / * ? " < > | space , # :
abbrev pub is_name_byte : ℕ → Bool
is_name_byte byte = not (is_between 65 90 byte) && not (list_any (λ other. other == byte) (codes "\\/*?\"<>| ,#:"))

-- one of - _ +, with which no name begins
abbrev pub is_no_first : ℕ → Bool
is_no_first byte = byte == 45 || (byte == 95 || byte == 43)

-- The name of an index or a destination has 1 to 255 such bytes, begins with none of - _ + and is neither . nor ..
unfoldable pub is_index_name : List ℕ → Bool
is_index_name name =
    is_between 1 255 (length name) && (list_all is_name_byte name && (not (is_no_first (slice_index name 0)) && not (bytes_eq name (codes ".") || bytes_eq name (codes ".."))))

-- whether each part between dots (46) has a byte; had says whether the first part has one already
abbrev pub parts_have_bytes : Bool → List ℕ → Bool
parts_have_bytes had [] = had
parts_have_bytes had (byte ∷ bytes) = if byte == 46 then had && parts_have_bytes false bytes else parts_have_bytes true bytes

-- A field's path has at most 255 bytes, in parts joined by dots that are not empty.
unfoldable pub is_field_path : List ℕ → Bool
is_field_path path = nat_le (length path) 255 && parts_have_bytes false path
