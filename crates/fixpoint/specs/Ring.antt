-- The list that stands in a ring. Assumes nothing.
use Rattle.std.specs.Prelude.{ℕ, List}
use Rattle.fixpoint.specs.Arrival.{queue}
use Rattle.fixpoint.specs.declared.ring.Ring.{Ring}

-- the bytes of a ring, the oldest first
abbrev pub queue_of : Ring → List ℕ
queue_of r = queue r.bytes r.head r.len
