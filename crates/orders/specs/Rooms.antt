-- Sets of rooms, one bit for each room. Assumes nothing.
use Rattle.std.specs.Prelude.{ℕ, ◌%◌, ◌^◌, Bool, ◌&&◌, bit_or, count_ones, nat_lt}
use Rattle.std.proofs.Common.{lit<}
use Rattle.std.proofs.lemmas.Nat.{mod_below, or_lt}
use Rattle.bits.specs.Bits.{bit}
use Rattle.orders.specs.declared.rooms.RoomSet.{RoomSet}

-- no room
abbrev pub none : RoomSet
none = record { bits = 0; ok = lit< tt }

-- room i alone
abbrev pub only : ℕ → RoomSet
only i = record { bits = 2 ^ i % 65536; ok = mod_below (2 ^ i) 65536 (lit< tt) }

-- the rooms of either set
abbrev pub union : RoomSet → RoomSet → RoomSet
union a b = record { bits = bit_or a.bits b.bits; ok = or_lt 16 a.bits b.bits a.ok b.ok }

-- whether room i is in the set
abbrev pub has : RoomSet → ℕ → Bool
has a i = nat_lt i 12 && bit a.bits i

-- how many rooms a set has
abbrev pub size : RoomSet → ℕ
size a = count_ones a.bits
