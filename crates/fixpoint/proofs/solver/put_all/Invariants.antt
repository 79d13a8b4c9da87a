use Rattle.std.proofs.Common.{◌≡◌, ℕ, ◌||◌, ltb}
use Rattle.fixpoint.proofs.solver.put_all.Given as goal

abbrev pub invariant-loop-i : goal.invariant-loop-i
invariant-loop-i g l = (j : ℕ) → g.W.Worklist.waiting l.worklist j ≡ (g.W.Worklist.waiting l.initial.worklist j || ltb j l.i)
