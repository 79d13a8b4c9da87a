use Rattle.std.proofs.Common.{◌≡◌}
use Rattle.orders.specs.Plan.{reached}
use Rattle.orders.proofs.plan.PlanSystem.evaluate.Given as goal

abbrev pub invariant-loop-j : goal.invariant-loop-j
invariant-loop-j l = l.all ≡ reached l.self.doors l.i l.area l.j
