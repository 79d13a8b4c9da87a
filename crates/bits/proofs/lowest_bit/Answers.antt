use Rattle.std.proofs.Common.{w64, ap, ◌∙◌, arith}
use Rattle.std.proofs.lemmas.Nat.Bits.{bit_at-trailing_zeros}
use Rattle.std.proofs.lemmas.Bool.Decides.{nat_tests}
use Rattle.bits.specs.Bits.{bit}
use Rattle.bits.proofs.Digits.{bit_zero}
use Rattle.bits.proofs.lowest_bit.Goals as goal

pub returns-then-word-eq0 : goal.returns-then-word-eq0
returns-then-word-eq0 c j = ap (λ w. bit w j) c.if-word-eq0.true ∙ bit_zero j

pub returns : goal.returns
unfolding bit
returns c =
    let lowest = bit_at-trailing_zeros w64 c.args.word (omega arith) (omega arith) in
    (lowest.0, grind (arith, nat_tests), λ j l. let below = lowest.2 j l in grind (arith, nat_tests))
