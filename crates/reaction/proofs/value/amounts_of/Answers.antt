use Rattle.std.proofs.Common.{ℕ, ◌&&◌, map, filter, inl, sym, ap, ◌∙◌}
use Rattle.std.proofs.lemmas.Iterator.Consumers.{YieldsList-end}
use Rattle.std.proofs.lemmas.List.{map-id}
use Rattle.bits.specs.Bits.{bit}
use Rattle.chart.proofs.Chains.{over_numbered}
use Rattle.chart.specs.Decoded.{decode}
use Rattle.chart.specs.declared.transition.Transition.{Transition}
use Rattle.fixpoint.specs.Marks.{marked}
use Rattle.reaction.proofs.Chosen.{amounts_numbered}
use Rattle.reaction.proofs.Numbered.{numbers_fit}
use Rattle.reaction.proofs.value.amounts_of.Goals as goal

pub loop-k-init-derived : goal.loop-k-init-derived
loop-k-init-derived c =
    ((tt, tt, inl (numbers_fit c.args.chart.now.bytes.now c.into_iter-k-iterator.result c.all_transitions.result c.all_transitions.ensures (ap (λ s. s.iter) c.into_iter-k-iterator.ensures.into_iter_gives ∙ c.enumerate-k-items.ensures.source) (ap (λ s. s.count) c.into_iter-k-iterator.ensures.into_iter_gives ∙ c.enumerate-k-items.ensures.count) c.args.chart.now.layout)), tt)

pub returns : goal.returns
returns c =
    let road = over_numbered (decode c.args.chart.now.bytes.now).transitions (ap (λ s. s.iter) c.into_iter-k-iterator.ensures.into_iter_gives ∙ c.enumerate-k-items.ensures.source) (ap (λ s. s.count) c.into_iter-k-iterator.ensures.into_iter_gives ∙ c.enumerate-k-items.ensures.count) c.all_transitions.ensures in
    let all = YieldsList-end road c.loop-k.yielded c.loop-k.k-iterator c.loop-k.yielded_by c.next.result c.next.new.self c.in-None.is c.next.ensures.steps in
    c.loop-k.invariant.0
    ∙ ap (λ ps. map (λ (p : ℕ × Transition). p.1.amount) (filter (λ p. marked c.args.fired.set p.0 && bit p.1.emitted c.args.s) ps)) (sym (map-id c.loop-k.yielded) ∙ all.0)
    ∙ amounts_numbered (decode c.args.chart.now.bytes.now) (marked c.args.fired.set) c.args.s
