-- What the accessors of a chart answer. Assumes nothing.
use Rattle.std.specs.Prelude.{◌≡◌, ℕ, ◌+◌, cond, List, [], length, take, drop, nat_lt, slice_index_or}
use Rattle.chart.specs.Decoded.{decode}
use Rattle.chart.specs.Places.{signal_place}

-- a name and its place: the name of signal i, or for any other number the file's empty end
pub record NamedAt (bs : List ℕ) (i : ℕ) (name : List ℕ) (place : ℕ) : Type 0 where
  pub is : name ≡ slice_index_or (decode bs).names i []
  pub stands : place ≡ cond (nat_lt i (length (decode bs).names)) (signal_place i + 2) (length bs)
  -- it is a part of the file
  pub part : name ≡ take (length name) (drop place bs)
