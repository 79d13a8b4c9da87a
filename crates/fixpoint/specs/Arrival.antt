-- Order of arrival: the numbers that wait, the longest waiting first. Assumes nothing.
use Rattle.std.specs.Prelude.{ℕ, zero, suc, ◌+◌, ◌%◌, cond, not, ◌&&◌, List, [], ◌∷◌, ◌++◌, Some, None, Option, nat_lt, slice_index}
use Rattle.fixpoint.specs.Numbers.{has}

-- the numbers in a ring of 128 places, from the place `head` on, round and round
unfoldable pub queue : List ℕ → ℕ → ℕ → List ℕ
queue ring head zero = []
queue ring head (suc n) = slice_index ring head ∷ queue ring ((head + 1) % 128) n

-- the front of a list
abbrev pub front : List ℕ → Option ℕ
front [] = None
front (x ∷ xs) = Some x

-- the numbers that wait after i is put: one that waits keeps its place, and one above 127 does not come to wait
abbrev pub arrived : ℕ → List ℕ → List ℕ
arrived i xs = cond (nat_lt i 128 && not (has i xs)) (xs ++ (i ∷ [])) xs
