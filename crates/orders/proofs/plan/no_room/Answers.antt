use Rattle.std.proofs.Common.{refl}
use Rattle.orders.specs.PlanLaws.{same_bits}
use Rattle.orders.proofs.plan.no_room.Goals as goal

pub returns : goal.returns
returns c = same_bits _ _ refl
