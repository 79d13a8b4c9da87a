use Rattle.std.proofs.Common.{◌≡◌, ℕ, ◌<◌}
use Rattle.fixpoint.specs.System.{place}
use Rattle.fixpoint.proofs.solver.clear.Given as goal

abbrev pub invariant-loop-unknown : goal.invariant-loop-unknown
invariant-loop-unknown g l = let s = g.S.System.equations l.system in (k : ℕ) → k < l.unknown-index → place s l.unknown-items k ≡ s.bottom
