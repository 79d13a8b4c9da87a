use Rattle.std.proofs.Common.{◌≡◌, ℕ, ◌<◌, Bool, get_or, sym, ap, ◌∙◌, arith}
use Rattle.std.proofs.lemmas.List.{get_or_read}
use Rattle.std.proofs.lemmas.Bool.Decides.{nat_tests}
use Rattle.bits.specs.Bits.{bit}
use Rattle.bits.specs.Set.{has, none}
use Rattle.bits.proofs.Digits.{bit_zero}
use Rattle.analysis.proofs.Reading.{gathered_all, gathered_no, gathered_yes}
use Rattle.analysis.proofs.reached.gather.Goals as goal
use Rattle.analysis.proofs.reached.gather.Goals.{then-holds, else-holds}

pub loop-s-init : goal.loop-s-init
loop-s-init c j = let blank = bit_zero j in grind (arith, nat_tests)

pub loop-s-preserved : goal.loop-s-preserved
loop-s-preserved c j =
    let sets = c.args.sets.now in
    let s = c.loop-s.s in
    let test : ℕ → Bool = λ i. has (get_or sets i none) 0 in
    let here : test s ≡ c.holds.result = ap (λ a. has a 0) (sym (get_or_read sets s c.index-sets-s.result (omega arith) c.index-sets-s.is none)) ∙ sym c.holds.ensures in
    let few : s < 64 = omega arith in
    elim c.if-holds.branch [
      | then-holds w ↦ ap (λ n. bit n j) w.signals-is ∙ gathered_yes test s j few (here ∙ w.if-holds.true) (c.loop-s.invariant j) (w.with_bit-signals.ensures j)
      | else-holds w ↦ ap (λ n. bit n j) w.signals-is ∙ gathered_no test s j (here ∙ w.if-holds.false) (c.loop-s.invariant j)
    ]

pub returns : goal.returns
returns c j = gathered_all c.args.sets.now c.loop-s.s j (omega arith) (c.loop-s.invariant j)
