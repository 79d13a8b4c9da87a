use Rattle.std.proofs.Common.{◌≡◌, ℕ, ◌&&◌, ltb, get_or}
use Rattle.bits.specs.Bits.{bit}
use Rattle.status.specs.Status.{unknown}
use Rattle.status.proofs.equations.Words.gather.Given as goal

-- the marks of the statuses so far
abbrev pub invariant-loop-s : goal.invariant-loop-s
invariant-loop-s l = (j : ℕ) → (bit l.words.present j ≡ (ltb j l.s && (get_or l.area j unknown).present)) × (bit l.words.absent j ≡ (ltb j l.s && (get_or l.area j unknown).absent))
