-- Where a dot stands in a path.
use Rattle.std.specs.Prelude.{◌≡◌, ℕ, ◌<◌, List, length, slice_index}

-- the path goes on with a dot (46) behind so many bytes
pub record IsFront (size : ℕ) (path : List ℕ) : Type 0 where
  pub within : size < length path
  pub dot : slice_index path size ≡ 46
