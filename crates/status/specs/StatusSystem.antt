-- What a status system is made of. Assumes nothing.
use Rattle.std.specs.Prelude.{ℕ, List, Option}
use Rattle.chart.specs.Decoded.{Decoded, decode}
use Rattle.status.specs.declared.equations.StatusSystem.{StatusSystem}

-- its chart, decoded
abbrev pub chart_of : StatusSystem → Decoded
chart_of s = decode s.chart.bytes.now

-- which state each automaton holds before the instant
abbrev pub states_of : StatusSystem → List (Option ℕ)
states_of s = s.configuration.now.states
