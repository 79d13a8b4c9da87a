use Rattle.std.proofs.Common.{ap}
use Rattle.engine.specs.Runner.{held, holding}
use Rattle.engine.proofs.Pasts.{past_start}
use Rattle.engine.proofs.Stories.{behind_reset}
use Rattle.engine.proofs.runner.Runner.reset.Goals as goal

pub invariant_of-self : goal.invariant_of-self
invariant_of-self c = record { past = past_start _ _ (ap (held 0) c.start-self.ensures) }

pub returns-clause-stories : goal.returns-clause-stories
returns-clause-stories c = behind_reset c.args.self.now.chart.bytes.now (holding c.args.self.now) _ (ap (held 0) c.start-self.ensures)
