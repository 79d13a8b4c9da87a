-- A chain of equations over truth values. Assumes nothing.
use Rattle.std.specs.Prelude.{ℕ, ◌-◌, Bool, false, cond, ◌&&◌, ◌||◌, List, length, ◌==◌, nat_le, nat_lt, slice_index_or}
use Rattle.fixpoint.specs.System.{Equations}

-- what link i says: the first is true, and each other is what stands before it
abbrev pub link : ℕ → List Bool → Bool
link i xs = i == 0 || slice_index_or xs (i - 1) false

-- n equations, one for each link
abbrev pub chain_equations : ℕ → Equations Bool
chain_equations n = record {
  bottom = false;
  join = λ a b. a || b;
  rank = λ a. cond a 1 0;
  height = 1;
  count = n;
  evaluate = λ i xs. (nat_lt i n && nat_le n (length xs)) && link i xs;
  reads = λ i j. nat_lt i n && (nat_lt 0 i && j == i - 1);
}
