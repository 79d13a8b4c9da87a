use Rattle.std.proofs.Common.{◌%◌, ◌^◌, ap, one-mul}
use Rattle.orders.specs.PlanLaws.{same_bits}
use Rattle.orders.proofs.plan.only_room.Goals as goal

pub returns : goal.returns
returns c = same_bits _ _ (ap (λ n. n % 65536) (one-mul (2 ^ c.args.i)))
