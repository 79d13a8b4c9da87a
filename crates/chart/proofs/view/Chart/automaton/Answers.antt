use Rattle.std.proofs.Common.{rules}
use Rattle.chart.proofs.Decoding.{automaton_listed}
use Rattle.chart.proofs.view.Chart.automaton.Goals as goal

pub returns : goal.returns
returns c = let listed = automaton_listed c.args.self.now.bytes.now c.args.k in search (rules, listed)
