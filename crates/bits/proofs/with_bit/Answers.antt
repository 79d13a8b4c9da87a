use Rattle.std.proofs.Common.{arith}
use Rattle.std.proofs.lemmas.Bool.Decides.{nat_tests}
use Rattle.bits.proofs.Digits.{bit_set}
use Rattle.bits.proofs.with_bit.Goals as goal

pub returns : goal.returns
returns c j = let e = bit_set c.args.word c.args.i j c.if-i-ge64.false in grind (arith, nat_tests)
