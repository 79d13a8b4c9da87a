use Rattle.std.proofs.Common.{◌≡◌, ℕ, ◌&&◌, ltb, length}
use Rattle.fixpoint.specs.Marks.{marked}
use Rattle.status.specs.Fired.{fires}
use Rattle.status.specs.StatusSystem.{chart_of, states_of}
use Rattle.status.specs.Words.{told}
use Rattle.status.proofs.equations.StatusSystem.fired_set.Given as goal

-- the promise for the transitions so far
abbrev pub invariant-loop-k : goal.invariant-loop-k
invariant-loop-k l = (j : ℕ) → marked l.set j ≡ (ltb j (length l.yielded) && fires (chart_of l.self) (states_of l.self) (told l.words) j)
