use Rattle.std.proofs.Common.{ltb, sym, arith}
use Rattle.std.proofs.lemmas.Bool.{and_left, le-ltb}
use Rattle.std.proofs.lemmas.Bool.Decides.{nat_tests}
use Rattle.bits.specs.Bits.{bit}
use Rattle.orders.proofs.plan.has_room.Goals as goal

pub returns-then-i-ge12 : goal.returns-then-i-ge12
returns-then-i-ge12 c = sym (and_left (ltb c.args.i 12) (bit c.args.a.bits c.args.i) (le-ltb c.args.i 12 c.if-i-ge12.true))

pub returns : goal.returns
unfolding bit
returns c = let l = c.if-i-ge12.false in grind (arith, nat_tests)
