-- The words of the command line.
use Rattle.std.specs.Prelude.{ℕ, ◌&&◌, ◌==◌, List, [], ◌∷◌, Bool, false, not, codes, Option, Some, None, if◌then◌else◌}
use Rattle.std.specs.Str.{bytes_eq}

-- a file's name: it is not empty and does not begin with a dash (45)
abbrev pub is_file : List ℕ → Bool
is_file [] = false
is_file (first ∷ rest) = not (first == 45)

-- the FILE of `run FILE`, none for any other words
abbrev pub file_of_run : List (List ℕ) → Option (List ℕ)
file_of_run [] = None
file_of_run (command ∷ []) = None
file_of_run (command ∷ file ∷ []) = if bytes_eq command (codes "run") && is_file file then Some file else None
file_of_run (command ∷ file ∷ other ∷ more) = None
