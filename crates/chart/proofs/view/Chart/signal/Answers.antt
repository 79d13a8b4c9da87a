use Rattle.std.proofs.Common.{rules}
use Rattle.chart.proofs.Decoding.{signal_listed}
use Rattle.chart.proofs.view.Chart.signal.Goals as goal

pub returns : goal.returns
returns c = let listed = signal_listed c.args.self.now.bytes.now c.args.i in search (rules, listed)
