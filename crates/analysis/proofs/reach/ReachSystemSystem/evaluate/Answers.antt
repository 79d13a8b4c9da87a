use Rattle.std.proofs.Common.{◌≡◌, ℕ, ◌-◌, length, get_or, take, drop, sym, ◌∙◌, arith}
use Rattle.std.proofs.lemmas.List.{length-take}
use Rattle.fixpoint.proofs.Evaluating.{given_is}
use Rattle.bits.specs.Bits.{bit}
use Rattle.bits.specs.Set.{has, none}
use Rattle.chart.specs.Decoded.{decode}
use Rattle.chart.proofs.Decoding.{few_signals}
use Rattle.analysis.specs.Reach.{possible_in, reach_of, reached_in, unknowns}
use Rattle.analysis.proofs.reach.ReachSystemSystem.evaluate.Goals as goal

pub gather-requires : goal.gather-requires
gather-requires c =
    let bs = c.args.self.now.chart.bytes.now in
    let first = c.automata-first.result in
    omega (arith, length-take (c.count-n.result - first) (drop first c.args.area.now), few_signals bs c.args.self.now.chart.layout)

pub returns : goal.returns
returns c =
    let chart = decode c.args.self.now.chart.bytes.now in
    let i = c.args.i in
    let xs = c.args.area.now in
    let first = c.automata-first.ensures in
    let others : c.count-n.result - c.automata-first.result ≡ length chart.signals = omega arith in
    let signal : (s : ℕ) → bit c.gather.result s ≡ possible_in chart xs s = λ s. c.gather.ensures s ∙ (λ k. has (get_or (take (others k) (drop (first k) xs)) s none) 0) in
    c.equation.ensures
    ∙ (λ k. reach_of chart (λ a s. has (get_or (take (first k) xs) a none) s) (λ s. signal s k) i)
    ∙ sym (given_is none (unknowns chart) i (λ zs. reach_of chart (reached_in chart zs) (possible_in chart zs) i) xs (omega arith) (omega arith))
