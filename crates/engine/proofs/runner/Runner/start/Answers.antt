use Rattle.std.proofs.Common.{ap}
use Rattle.engine.specs.Runner.{held}
use Rattle.engine.proofs.Pasts.{past_start}
use Rattle.engine.proofs.runner.Runner.start.Goals as goal

pub invariant_of-result : goal.invariant_of-result
invariant_of-result c = record { past = past_start _ _ (ap (held 0) c.start-configuration.ensures) }
