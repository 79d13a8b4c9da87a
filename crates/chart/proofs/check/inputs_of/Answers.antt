use Rattle.std.proofs.Common.{◌≡◌, ℕ, List, ◌+◌, ◌*◌, ◌<◌, ◌&&◌, Bool, eqb, ltb, get_or, length, take, drop, [], sym, ap, ◌∙◌, arith, rules, tests}
use Rattle.std.proofs.lemmas.Bool.Decides.{nat_tests}
use Rattle.std.proofs.lemmas.List.FromFn.{get_or-map-range_with_len, length-map-range_with_len}
use Rattle.bits.specs.Bits.{bit}
use Rattle.bits.proofs.Digits.{bit_zero}
use Rattle.bits.proofs.Masks.{gathered_no, gathered_yes}
use Rattle.chart.specs.Places.{byte, records_from}
use Rattle.chart.proofs.RecordBytes.{in_record}
use Rattle.chart.proofs.check.inputs_of.Goals as goal
use Rattle.chart.proofs.check.inputs_of.Goals.{then-eq, else-eq}

pub loop-s-init : goal.loop-s-init
loop-s-init c j = let blank = bit_zero j in grind (arith, nat_tests)

pub loop-s-preserved : goal.loop-s-preserved
loop-s-preserved c j =
    let bs = c.args.bytes.now in
    let s = c.loop-s.s in
    let n = byte bs 0 in
    let signal : ℕ → List ℕ = λ k. take 10 (drop (1 + 10 * k) bs) in
    let test : ℕ → Bool = λ i. eqb (byte bs (1 + 10 * i)) 0 in
    let list : c.records_of-signals.result.now ≡ records_from bs 10 1 n = search rules in
    let less : s < n = omega (arith, ap length list, length-map-range_with_len signal 0 n) in
    let first : get_or (get_or c.records_of-signals.result.now s []) 0 0 ≡ byte bs (1 + 10 * s) =
    ap (λ xs. get_or (get_or xs s []) 0 0) list ∙ ap (λ xs. get_or xs 0 0) (get_or-map-range_with_len signal 0 n s s [] less (omega arith))
    ∙ in_record bs (1 + 10 * s) 10 0 (1 + 10 * s) (omega arith) (omega arith) in
    let same : eqb (get_or (get_or c.records_of-signals.result.now s []) 0 0) 0 ≡ c.eq.result = search (rules, tests) in
    let here : test s ≡ c.eq.result = ap (λ b. eqb b 0) (sym first) ∙ same in
    let few : s < 64 = omega (arith, c.requires, less) in
    elim c.if-eq.branch [
      | then-eq w ↦ ap (λ m. bit m j) w.inputs-is ∙ gathered_yes test s j few (here ∙ w.if-eq.true) (c.loop-s.invariant j) (w.with_bit-inputs.ensures j)
      | else-eq w ↦ ap (λ m. bit m j) w.inputs-is ∙ gathered_no test s j (here ∙ w.if-eq.false) (c.loop-s.invariant j)
    ]

pub returns : goal.returns
returns c j =
    let bs = c.args.bytes.now in
    let list : c.records_of-signals.result.now ≡ records_from bs 10 1 (byte bs 0) = search rules in
    let all : c.loop-s.s ≡ byte bs 0 = omega (arith, ap length list, length-map-range_with_len (λ k. take 10 (drop (1 + 10 * k) bs)) 0 (byte bs 0)) in
    c.loop-s.invariant j ∙ ap (λ n. ltb j n && eqb (byte bs (1 + 10 * j)) 0) all
