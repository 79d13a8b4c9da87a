use Rattle.std.proofs.Common.{◌-◌, ⊎_elim, arith}
use Rattle.std.proofs.lemmas.Bool.{cases_lt}
use Rattle.std.proofs.lemmas.Bool.Decides.{nat_tests}
use Rattle.bits.proofs.Digits.{bit_above}
use Rattle.fixpoint.proofs.marks.Marks.has.Goals as goal

pub returns-else-i-lt64 : goal.returns-else-i-lt64
returns-else-i-lt64 c = ⊎_elim
    (λ l. grind (arith, nat_tests))
    (λ l. let none = bit_above 64 c.args.self.high (c.args.i - 64) (omega arith) (omega arith) in grind (arith, nat_tests))
    (cases_lt c.args.i 128)
