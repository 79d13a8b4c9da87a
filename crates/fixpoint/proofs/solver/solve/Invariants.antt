use Rattle.fixpoint.proofs.Solving.{Working, left}
use Rattle.fixpoint.proofs.solver.solve.Given as goal

abbrev pub invariant-loop-i : goal.invariant-loop-i
invariant-loop-i g l = Working (g.S.System.equations l.system) l.initial.area l.area (g.W.Worklist.waiting l.worklist)

abbrev pub decreases-loop-i : goal.decreases-loop-i
decreases-loop-i g l = left (g.S.System.equations l.system) l.area (g.W.Worklist.waiting l.worklist)
