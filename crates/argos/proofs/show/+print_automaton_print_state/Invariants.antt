-- An automaton stands in one with a smaller number.
use Rattle.std.proofs.Common.{ℕ, ◌+◌, ◌-◌, ◌*◌, List, length}
use Rattle.chart.specs.Decoded.{decode}
use Rattle.argos.proofs.show.+print_automaton_print_state.Given as goal

-- how many automata come after a number
abbrev later : List ℕ → ℕ → ℕ
later bytes k = length (decode bytes).automata - k

abbrev pub decreases-print_automaton : goal.decreases-print_automaton
decreases-print_automaton l = 2 * later l.chart.bytes.now l.k + 1

abbrev pub decreases-print_state : goal.decreases-print_state
decreases-print_state l = 2 * later l.chart.bytes.now l.k
