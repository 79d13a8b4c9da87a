-- Sets of numbers from 0 to 31. Assumes nothing.
use Rattle.std.specs.Prelude.{ℕ, ◌%◌, ◌^◌, Bool, cond, bit_or, count_ones}
use Rattle.std.proofs.Common.{lit<}
use Rattle.std.proofs.lemmas.Nat.{mod_below, or_lt}
use Rattle.bits.specs.Bits.{bit}
use Rattle.bits.specs.declared.set.NumberSet.{NumberSet}

-- no number
abbrev pub none : NumberSet
none = record { bits = 0; ok = lit< tt }

-- number i alone; a number above 31 has no place
abbrev pub only : ℕ → NumberSet
only i = record { bits = 2 ^ i % 2 ^ 32; ok = mod_below (2 ^ i) (2 ^ 32) (lit< tt) }

-- number i alone where a test holds, and otherwise nothing
abbrev pub only_if : Bool → ℕ → NumberSet
only_if test i = cond test (only i) none

-- the numbers of either set
abbrev pub union : NumberSet → NumberSet → NumberSet
union a b = record { bits = bit_or a.bits b.bits; ok = or_lt 32 a.bits b.bits a.ok b.ok }

-- whether a set has number i
abbrev pub has : NumberSet → ℕ → Bool
has a i = bit a.bits i

-- how many numbers a set has
abbrev pub size : NumberSet → ℕ
size a = count_ones a.bits
