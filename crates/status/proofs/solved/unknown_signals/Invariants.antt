use Rattle.std.proofs.Common.{◌≡◌, ℕ, ◌&&◌, ltb, get_or}
use Rattle.bits.specs.Bits.{bit}
use Rattle.status.specs.Solved.{is_unknown}
use Rattle.status.specs.Status.{unknown}
use Rattle.status.proofs.solved.unknown_signals.Given as goal

-- the promise for the signals so far
abbrev pub invariant-loop-s : goal.invariant-loop-s
invariant-loop-s l = (k : ℕ) → bit l.mask k ≡ (ltb k l.s && is_unknown (get_or l.area k unknown))
