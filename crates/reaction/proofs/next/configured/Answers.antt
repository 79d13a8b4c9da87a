use Rattle.std.proofs.Common.{length, map, ap, sym, ◌∙◌, arith}
use Rattle.std.specs.List.{slice_get}
use Rattle.std.proofs.lemmas.List.{length_push}
use Rattle.chart.specs.Decoded.{decode}
use Rattle.chart.specs.Few.{automata_128}
use Rattle.chart.proofs.Decoding.{few_automata}
use Rattle.reaction.specs.Next.{padded, started, state_of, under}
use Rattle.reaction.proofs.Numbered.{few_left, record_end, record_turn}
use Rattle.reaction.proofs.Settling.{automaton_inside, settled_all, settled_more}
use Rattle.reaction.proofs.next.configured.Goals as goal

pub loop-k-init-derived : goal.loop-k-init-derived
loop-k-init-derived g c =
    let counted = c.into_iter-k-iterator in
    ((tt, tt, few_left (λ d. d.automata) automata_128 counted.result.count counted.result.iter (ap (λ e. e.count) counted.ensures.into_iter_gives ∙ c.enumerate-k-items.ensures.count)), tt)

pub push-requires : goal.push-requires
push-requires g c =
    let chart = decode c.args.chart.now.bytes.now in
    let turn = record_turn (λ d. d.automata) chart.automata c.into_iter-k-iterator.ensures.into_iter_gives c.enumerate-k-items.ensures.source c.enumerate-k-items.ensures.count c.all_automata.ensures
    c.loop-k.yielded c.loop-k.k-iterator c.loop-k.yielded_by c.next.result c.next.new.self c.in-Some.k c.in-Some.automaton c.in-Some.is c.next.ensures.steps in
    let inside = automaton_inside chart (length c.loop-k.yielded) turn.1 in
    let few = few_automata c.args.chart.now.bytes.now c.args.chart.now.layout in
    (omega arith, omega (arith, c.loop-k.invariant.1))

pub loop-k-preserved : goal.loop-k-preserved
loop-k-preserved g c =
    let chart = decode c.args.chart.now.bytes.now in
    let outs = c.loop-k.outcomes.items in
    let a = c.in-Some.automaton in
    let y = c.itself-by_itself.result in
    let turn = record_turn (λ d. d.automata) chart.automata c.into_iter-k-iterator.ensures.into_iter_gives c.enumerate-k-items.ensures.source c.enumerate-k-items.ensures.count c.all_automata.ensures
    c.loop-k.yielded c.loop-k.k-iterator c.loop-k.yielded_by c.next.result c.next.new.self c.in-Some.k a c.in-Some.is c.next.ensures.steps in
    let long = c.loop-k.invariant.1 in
    let is = c.under-outcome.ensures ∙ ap (λ before. under a.owner before y (started a)) c.deref.ensures.0 in (
      λ does h. settled_more chart does outs (c.loop-k.invariant.0 does h) (λ k b r. g.F.Fn.post c.args.itself (k, (b, tt)) r) h
          c.in-Some.k a c.under-outcome.result y c.push.new.self.items (turn.0 ∙ sym long) (turn.1 ∙ ap (slice_get chart.automata) (sym long)) c.itself-by_itself.ensures is c.push.ensures.items,
      omega (arith, c.push.ensures.len, long, length_push c.loop-k.yielded (c.in-Some.k, c.in-Some.automaton)),
    )

pub returns : goal.returns
returns g c = λ does h.
    let chart = decode c.args.chart.now.bytes.now in
    let all = record_end (λ d. d.automata) chart.automata c.into_iter-k-iterator.ensures.into_iter_gives c.enumerate-k-items.ensures.source c.enumerate-k-items.ensures.count c.all_automata.ensures
    c.loop-k.yielded c.loop-k.k-iterator c.loop-k.yielded_by c.next.result c.next.new.self c.in-None.is c.next.ensures.steps in
    c.configuration_of.ensures ∙ ap (λ outs. padded (map state_of outs)) (c.deref-2.ensures.0 ∙ settled_all chart does c.loop-k.outcomes.items (c.loop-k.invariant.0 does h) (c.loop-k.invariant.1 ∙ all))
