use Rattle.std.proofs.Common.{sym, refl, arith}
use Rattle.bits.specs.Bits.{bit}
use Rattle.bits.proofs.Digits.{bit_above}
use Rattle.bits.proofs.has_bit.Goals as goal

pub returns-then-i-ge64 : goal.returns-then-i-ge64
returns-then-i-ge64 c = sym (bit_above 64 c.args.word c.args.i (omega arith) c.if-i-ge64.true)

pub returns : goal.returns
unfolding bit
returns c = refl
