use Rattle.std.proofs.Common.{refl}
use lib.Bits.{or_lt}
use Rattle.orders.specs.PlanLaws.{same_bits}
use Rattle.orders.proofs.plan.united.Goals as goal

pub invariant_of-result : goal.invariant_of-result
invariant_of-result c = record { ok = or_lt 16 c.args.a.bits c.args.b.bits c.args.a.ok c.args.b.ok }

pub returns : goal.returns
returns c = same_bits _ _ refl
