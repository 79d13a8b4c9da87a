use Rattle.std.proofs.Common.{◌≡◌, ℕ, ◌&&◌, nat_lt, slice_index_or}
use Rattle.bits.specs.Bits.{bit}
use Rattle.bits.specs.Set.{has, none}
use Rattle.analysis.proofs.reached.gather.Given as goal

-- the promise for the signals so far
abbrev pub invariant-loop-s : goal.invariant-loop-s
invariant-loop-s l = (j : ℕ) → bit l.signals j ≡ (nat_lt j l.s && has (slice_index_or l.sets j none) 0)
