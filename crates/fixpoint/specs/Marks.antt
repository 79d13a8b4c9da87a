-- A set of numbers from 0 to 127 as two words. Assumes nothing.
use Rattle.std.specs.Prelude.{ℕ, ◌-◌, Bool, false, cond, nat_lt}
use Rattle.bits.specs.Bits.{bit}
use Rattle.fixpoint.specs.declared.marks.Marks.{Marks}

-- whether i is marked: numbers below 64 in the low word, the others in the high word
abbrev pub marked : Marks → ℕ → Bool
marked m i = cond (nat_lt i 64) (bit m.low i) (cond (nat_lt i 128) (bit m.high (i - 64)) false)
