use Rattle.std.proofs.Common.{length, arith}
use Rattle.engine.specs.Runner.{holding}
use Rattle.engine.proofs.Pasts.{counted, past_instant}
use Rattle.engine.proofs.Stories.{behind_instant}
use Rattle.engine.proofs.runner.Runner.instant.Goals as goal

pub returns-in_err-accepted-clause-stories : goal.returns-in_err-accepted-clause-stories
returns-in_err-accepted-clause-stories g c =
    behind_instant c.args.self.now.chart.bytes.now (holding c.args.self.now) _ c.args.mask (length c.args.area.now) (length c.args.line.now) c.in_err-accepted.ensures.holds

pub overflow_add-self : goal.overflow_add-self
overflow_add-self g c = omega (arith, counted c.args.self.now)

pub invariant_of-self : goal.invariant_of-self
invariant_of-self g c = record {
  past = past_instant c.args.self.now.chart.bytes.now (holding c.args.self.now) _ c.args.mask (length c.args.area.now) (length c.args.line.now) c.in_ok-accepted.ensures.holds c.args.self.now.past;
}

pub returns-clause-stories : goal.returns-clause-stories
returns-clause-stories g c =
    behind_instant c.args.self.now.chart.bytes.now (holding c.args.self.now) _ c.args.mask (length c.args.area.now) (length c.args.line.now) c.in_ok-accepted.ensures.holds
