use Rattle.std.proofs.Common.{◌≡◌, ℕ, ◌&&◌, ◌||◌, ltb}
use Rattle.fixpoint.proofs.solver.put_readers.Given as goal

abbrev pub invariant-loop-j : goal.invariant-loop-j
invariant-loop-j g l = let s = g.S.System.equations l.system in
    (k : ℕ) → g.W.Worklist.waiting l.worklist k ≡ (g.W.Worklist.waiting l.initial.worklist k || (ltb k l.j && s.reads k l.i))
