use Rattle.std.proofs.Common.{sym, ◌∙◌}
use Rattle.chart.proofs.Accepts.{verdict_ok, verdict_from, layout_from, layout_walked}
use Rattle.chart.proofs.check.check.Goals as goal

pub returns : goal.returns
returns c =
    let bs = c.args.bytes.now in
    record {
      verdict = c.walk.ensures;
      accepts = (λ ok. layout_from bs (verdict_ok bs (sym c.walk.ensures ∙ ok)), λ h. c.walk.ensures ∙ verdict_from bs (layout_walked bs h));
    }
