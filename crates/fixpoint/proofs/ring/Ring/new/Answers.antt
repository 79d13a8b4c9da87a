use Rattle.std.proofs.Common.{refl}
use Rattle.fixpoint.specs.Arrival.{queue}
use Rattle.fixpoint.proofs.ring.Ring.new.Goals as goal

pub returns : goal.returns
unfolding queue
returns c = refl
