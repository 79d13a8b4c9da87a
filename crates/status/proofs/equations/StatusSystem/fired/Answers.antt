use Rattle.fixpoint.specs.Marks.{marked}
use Rattle.status.specs.StatusSystem.{chart_of, states_of}
use Rattle.status.proofs.Firing.{fired_under}
use Rattle.status.proofs.equations.StatusSystem.fired.Goals as goal

pub returns : goal.returns
returns c = fired_under (chart_of c.args.self.now) (states_of c.args.self.now) c.args.area.now (marked c.fired_set.result) c.fired_set.ensures
