use Rattle.std.proofs.Common.{sym, ap, ◌∙◌}
use Rattle.chart.specs.Places.{byte}
use Rattle.chart.proofs.Decoding.{transitions_long}
use Rattle.chart.proofs.view.Chart.transitions.Goals as goal

pub returns : goal.returns
returns c =
    let bs = c.args.self.now.bytes.now in
    c.from.ensures ∙ ap (byte bs) c.transitions_at.ensures.0 ∙ sym (transitions_long bs)
