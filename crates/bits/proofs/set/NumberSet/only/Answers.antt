use Rattle.std.proofs.Common.{sym, ◌∙◌}
use Rattle.bits.specs.Set.{only}
use Rattle.bits.proofs.Sets.{high_power, same_bits}
use Rattle.bits.proofs.set.NumberSet.only.Goals as goal

pub returns-then-i-ge32 : goal.returns-then-i-ge32
returns-then-i-ge32 c = same_bits _ (only c.args.i) (c.empty.ensures ∙ sym (high_power c.args.i c.if-i-ge32.true))
