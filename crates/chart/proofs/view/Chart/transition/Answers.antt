use Rattle.std.proofs.Common.{rules}
use Rattle.chart.proofs.Decoding.{transition_listed}
use Rattle.chart.proofs.view.Chart.transition.Goals as goal

pub returns : goal.returns
returns c = let listed = transition_listed c.args.self.now.bytes.now c.args.i in search (rules, listed)
