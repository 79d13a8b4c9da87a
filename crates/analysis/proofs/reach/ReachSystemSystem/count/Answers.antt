use Rattle.std.proofs.Common.{arith}
use Rattle.chart.proofs.Decoding.{few_automata, few_signals}
use Rattle.analysis.proofs.reach.ReachSystemSystem.count.Goals as goal

pub overflow_add-result : goal.overflow_add-result
overflow_add-result c =
    let bs = c.args.self.now.chart.bytes.now in
    let layout = c.args.self.now.chart.layout in
    omega (arith, few_automata bs layout, few_signals bs layout)
