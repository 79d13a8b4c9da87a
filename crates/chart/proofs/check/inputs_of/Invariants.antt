use Rattle.std.proofs.Common.{◌≡◌, ℕ, ◌+◌, ◌*◌, ◌&&◌, eqb, ltb}
use Rattle.bits.specs.Bits.{bit}
use Rattle.chart.specs.Places.{byte}
use Rattle.chart.proofs.check.inputs_of.Given as goal

-- the inputs so far
abbrev pub invariant-loop-s : goal.invariant-loop-s
invariant-loop-s l = (j : ℕ) → bit l.inputs j ≡ (ltb j l.s && eqb (byte l.bytes (1 + 10 * j)) 0)
