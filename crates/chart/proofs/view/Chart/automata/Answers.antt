use Rattle.std.proofs.Common.{sym, ap, ◌∙◌}
use Rattle.chart.specs.Places.{byte}
use Rattle.chart.proofs.Decoding.{automata_long}
use Rattle.chart.proofs.view.Chart.automata.Goals as goal

pub returns : goal.returns
returns c =
    let bs = c.args.self.now.bytes.now in
    c.from.ensures ∙ ap (byte bs) c.automata_at.ensures.0 ∙ sym (automata_long bs)
