-- Which rooms can be reached from which. Assumes nothing.
use Rattle.std.specs.Prelude.{ℕ, zero, suc, Bool, cond, ◌&&◌, List, length, nat_le, nat_lt, slice_index_or}
use Rattle.fixpoint.specs.System.{Equations}
use Rattle.orders.specs.Rooms.{none, only, union, has, size}
use Rattle.orders.specs.declared.rooms.RoomSet.{RoomSet}

-- whether a door leads from room i to room j; `doors` has for each room the rooms behind its doors
abbrev pub door : List RoomSet → ℕ → ℕ → Bool
door doors i j = has (slice_index_or doors i none) j

-- room i, and all that is reached from those of the first n rooms that stand behind its doors
unfoldable pub reached : List RoomSet → ℕ → List RoomSet → ℕ → RoomSet
reached doors i xs zero = only i
reached doors i xs (suc j) = cond (door doors i j) (union (reached doors i xs j) (slice_index_or xs j none)) (reached doors i xs j)

-- twelve equations, one for each room; a set has at most sixteen numbers
abbrev pub plan_equations : List RoomSet → Equations RoomSet
plan_equations doors = record {
  bottom = none;
  join = union;
  rank = size;
  height = 16;
  count = 12;
  evaluate = λ i xs. cond (nat_lt i 12 && nat_le 12 (length xs)) (reached doors i xs 12) none;
  reads = λ i j. nat_lt i 12 && door doors i j;
}
