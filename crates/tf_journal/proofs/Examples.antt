-- Files and what they are read as.
use Rattle.std.specs.Prelude.{◌≡◌, [], ◌∷◌, ◌++◌, refl}
use Rattle.tf_journal.specs.Sizes.{size_of}
use Rattle.tf_journal.specs.Frames.{magic, reading, whole, damaged, found_within}

-- two frames
two : reading (magic ++ 1 ∷ 3 ∷ 0 ∷ 0 ∷ 0 ∷ 0 ∷ 0 ∷ 0 ∷ 0 ∷ 97 ∷ 98 ∷ 99 ∷ 1 ∷ 1 ∷ 0 ∷ 0 ∷ 0 ∷ 0 ∷ 0 ∷ 0 ∷ 0 ∷ 122 ∷ 0 ∷ []) ≡ whole ((97 ∷ 98 ∷ 99 ∷ []) ∷ (122 ∷ []) ∷ [])
unfolding found_within size_of
two = refl

-- a frame that runs past the end
cut_short : reading (magic ++ 1 ∷ 7 ∷ []) ≡ damaged 1 []
unfolding found_within size_of
cut_short = refl

-- no beginning of a file
foreign : reading (0 ∷ 0 ∷ 0 ∷ 0 ∷ 0 ∷ 0 ∷ 0 ∷ 0 ∷ 0 ∷ 0 ∷ []) ≡ damaged 0 []
unfolding found_within size_of
foreign = refl

-- nine bytes
short : reading (1 ∷ 2 ∷ 3 ∷ 4 ∷ 5 ∷ 6 ∷ 7 ∷ 8 ∷ 9 ∷ []) ≡ whole []
unfolding found_within size_of
short = refl
