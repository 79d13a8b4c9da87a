use Rattle.std.proofs.Common.{arith}
use Rattle.chart.proofs.Decoding.{few_automata}
use Rattle.argos.proofs.show.+print_automaton_print_state.Goals as goal

-- there are few automata
pub print_state-overflow_step-j : goal.print_state-overflow_step-j
print_state-overflow_step-j t c =
    omega (arith, c.requires, few_automata c.args.chart.bytes.now c.args.chart.layout)
