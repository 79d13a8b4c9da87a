-- What is reached, as the code holds it. Assumes nothing.
use Rattle.std.specs.Prelude.{ℕ, Bool, slice_index_or}
use Rattle.bits.specs.Bits.{bit}
use Rattle.bits.specs.Set.{has, none}
use Rattle.chart.specs.Decoded.{Decoded, decode}
use Rattle.analysis.specs.declared.reached.Reached.{Reached}

-- the chart of a `Reached`
abbrev pub chart_of : Reached → Decoded
chart_of r = decode r.chart.bytes.now

-- whether a state is in its automaton's set
abbrev pub state_in : Reached → ℕ → ℕ → Bool
state_in r k s = has (slice_index_or r.sets.now k none) s

-- whether a signal is among the possible ones
abbrev pub signal_in : Reached → ℕ → Bool
signal_in r s = bit r.signals s
