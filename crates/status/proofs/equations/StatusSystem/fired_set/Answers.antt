use Rattle.std.proofs.Common.{◌≡◌, ◌&&◌, ltb, slice_index_or, take, length, sym, ap, ◌∙◌, arith}
use Rattle.std.proofs.lemmas.Bool.{and_left, le-ltb}
use Rattle.std.proofs.lemmas.List.{length_push, length-take}
use Rattle.chart.proofs.Decoding.{few_signals, few_transitions}
use Rattle.fixpoint.specs.Marks.{marked}
use Rattle.status.specs.Fired.{fires}
use Rattle.status.specs.Status.{unknown}
use Rattle.status.specs.StatusSystem.{chart_of, states_of}
use Rattle.status.specs.Words.{told}
use Rattle.status.specs.declared.status.Status.{Status}
use Rattle.chart.proofs.Chains.{count_fits, numbered_end, numbered_turn}
use Rattle.status.proofs.Firing.{fires_next}
use Rattle.status.proofs.Reading.{none_added, one_added}
use Rattle.status.proofs.equations.StatusSystem.fired_set.Goals as goal

pub gather-words-requires : goal.gather-words-requires
gather-words-requires c =
    let few = few_signals c.args.self.now.chart.bytes.now c.args.self.now.chart.layout in
    omega (arith, length-take {A = Status})

pub loop-k-init-derived : goal.loop-k-init-derived
loop-k-init-derived c =
    let counted = c.into_iter-k-iterator in
    ((tt, tt, count_fits counted.result.count counted.result.iter (ap (λ e. e.count) counted.ensures.into_iter_gives ∙ c.enumerate-k-items.ensures.count)), tt)

pub loop-k-init : goal.loop-k-init
loop-k-init c j = c.new-set.ensures j ∙ sym (and_left (ltb j 0) _ (le-ltb j 0 (omega arith)))

pub loop-k-preserved-then-live-firing : goal.loop-k-preserved-then-live-firing
loop-k-preserved-then-live-firing c j =
    let self = c.args.self.now in
    let ts = (chart_of self).transitions in
    let u = told c.gather-words.result in
    let n = length c.loop-k.yielded in
    let turn = numbered_turn ts c.into_iter-k-iterator.ensures.into_iter_gives c.enumerate-k-items.ensures.source c.enumerate-k-items.ensures.count c.all_transitions.ensures
    c.loop-k.yielded c.loop-k.k-iterator c.loop-k.yielded_by c.next.result c.next.new.self (c.in-Some.k, c.in-Some.t) c.in-Some.is c.next.ensures.steps in
    let next = fires_next (chart_of self) (states_of self) u n c.in-Some.k c.in-Some.t turn c.live.ensures c.firing.ensures in
    let few = few_transitions self.chart.bytes.now self.chart.layout in
    one_added (fires (chart_of self) (states_of self) u) (marked c.loop-k.set j) n _ j (length_push c.loop-k.yielded (c.in-Some.k, c.in-Some.t)) (c.loop-k.invariant j)
    (marked c.with-set.result j) c.in-Some.k next.1 (omega arith) (sym next.2 ∙ c.if-live-firing.true) (c.with-set.ensures j)

pub loop-k-preserved : goal.loop-k-preserved
loop-k-preserved c j =
    let self = c.args.self.now in
    let ts = (chart_of self).transitions in
    let u = told c.gather-words.result in
    let n = length c.loop-k.yielded in
    let turn = numbered_turn ts c.into_iter-k-iterator.ensures.into_iter_gives c.enumerate-k-items.ensures.source c.enumerate-k-items.ensures.count c.all_transitions.ensures
    c.loop-k.yielded c.loop-k.k-iterator c.loop-k.yielded_by c.next.result c.next.new.self (c.in-Some.k, c.in-Some.t) c.in-Some.is c.next.ensures.steps in
    let next = fires_next (chart_of self) (states_of self) u n c.in-Some.k c.in-Some.t turn c.live.ensures c.firing.ensures in
    none_added (fires (chart_of self) (states_of self) u) (marked c.loop-k.set j) n _ j (length_push c.loop-k.yielded (c.in-Some.k, c.in-Some.t)) (c.loop-k.invariant j)
    (sym next.2 ∙ c.if-live-firing.false)

pub returns : goal.returns
returns c k =
    let self = c.args.self.now in
    let ts = (chart_of self).transitions in
    let all = numbered_end ts c.into_iter-k-iterator.ensures.into_iter_gives c.enumerate-k-items.ensures.source c.enumerate-k-items.ensures.count c.all_transitions.ensures
    c.loop-k.yielded c.loop-k.k-iterator c.loop-k.yielded_by c.next.result c.next.new.self c.in-None.is c.next.ensures.steps in
    let words : (s : _) → told c.gather-words.result s ≡ slice_index_or (take (length (chart_of self).signals) c.args.area.now) s unknown =
    λ s. c.gather-words.ensures s ∙ ap (λ n. slice_index_or (take n c.args.area.now) s unknown) c.signals.ensures in
    c.loop-k.invariant k ∙ (λ i. ltb k (all i) && fires (chart_of self) (states_of self) (λ s. words s i) k)
