use Rattle.std.proofs.Common.{arith}
use Rattle.chart.proofs.Decoding.{few_automata, few_signals}
use Rattle.argos.proofs.reach.tell_reach.Goals as goal

-- there are places enough, so it is not refused
pub unreachable-requires : goal.unreachable-requires
unreachable-requires c =
    let bs = c.args.chart.bytes.now in
    let layout = c.args.chart.layout in
    c.in_default.not-Ok tt (c.reach.ensures.solved (omega (arith, few_automata bs layout, few_signals bs layout))).0
