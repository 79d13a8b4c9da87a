use Rattle.std.proofs.Common.{◌≡◌, ⊎_elim, arith}
use Rattle.std.proofs.lemmas.Bool.{cases_eq}
use Rattle.std.proofs.lemmas.Bool.Decides.{nat_tests}
use Rattle.bits.proofs.Digits.{bit_above, bit_clear}
use Rattle.bits.proofs.without_bit.Goals as goal

pub returns-then-i-ge64 : goal.returns-then-i-ge64
returns-then-i-ge64 c j = ⊎_elim
    (λ (d : j ≡ c.args.i). let e = bit_above 64 c.args.word j (omega arith) (omega arith) in grind (arith, nat_tests))
    (λ (d : j ≡ c.args.i → ⊥). grind (arith, nat_tests))
    (cases_eq j c.args.i)

pub returns : goal.returns
returns c j = bit_clear c.args.word c.args.i j (omega arith) c.if-i-ge64.false
