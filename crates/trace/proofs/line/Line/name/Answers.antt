use Rattle.std.proofs.Common.{rules}
use Rattle.trace.proofs.Pieces.{name_text}
use Rattle.trace.proofs.line.Line.name.Goals as goal

pub unwrap-requires : goal.unwrap-requires
unwrap-requires c =
    let chart = c.args.self.now.chart in
    let text = name_text chart.bytes.now chart.layout c.args.s c.name.ensures.is in
    search rules
