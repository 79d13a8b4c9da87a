use Rattle.std.proofs.Common.{◌≡◌, ◌+◌, ◌≤◌}
use Rattle.chart.specs.Check.{states_upto}
use Rattle.chart.proofs.check.automata_within.Given as goal

-- the states so far, which still are few enough
abbrev pub invariant-loop-k : goal.invariant-loop-k
invariant-loop-k l = (l.together ≡ states_upto l.bytes (l.at + 1) l.k) × (l.together ≤ 64)
