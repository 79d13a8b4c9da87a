use Rattle.std.proofs.Common.{sym, ◌∙◌}
use Rattle.chart.proofs.Decoding.{signals_long}
use Rattle.chart.proofs.view.Chart.signals.Goals as goal

pub returns : goal.returns
returns c = c.from.ensures ∙ sym (signals_long c.args.self.now.bytes.now)
