use Rattle.std.proofs.Common.{◌++◌, sym, ap, ◌∙◌, arith}
use Rattle.std.specs.List.{range_with_len, flat_map}
use Rattle.std.proofs.lemmas.Iterator.Consumers.{YieldsList-end}
use Rattle.std.proofs.lemmas.Iterator.{YieldsList-from_slice, YieldsList-from_take}
use Rattle.std.proofs.lemmas.List.{length-take-le}
use Rattle.std.proofs.lemmas.List.Folds.{flat_map-map}
use Rattle.chart.proofs.Decoding.{few_automata}
use Rattle.trace.specs.Line.{space_held, state_text}
use Rattle.trace.proofs.Pieces.{states_shown}
use Rattle.trace.proofs.line.Line.push_states.Goals as goal

pub returns : goal.returns
returns c =
    let chart = c.args.self.now.chart in
    let states = c.args.self.now.after.now.states in
    let few = few_automata chart.bytes.now chart.layout in
    let shown = states_shown states c.automata.result (omega (arith, few)) in
    let by_number = ap (λ n. flat_map (state_text states) (range_with_len 0 n)) c.automata.ensures in
    let taken = YieldsList-from_take c.automata.result (YieldsList-from_slice states cc) cc in
    let all = YieldsList-end taken c.loop-held.yielded _ c.loop-held.yielded_by _ _ c.in-None.is c.next.ensures.steps in
    let held = sym (flat_map-map space_held (λ r. r.now) c.loop-held.yielded) ∙ ap (flat_map space_held) all.0 in
    (c.loop-held.invariant.bytes ∙ ap (λ text. c.args.text.now.bytes ++ text) (held ∙ shown ∙ by_number), omega (arith, few, c.loop-held.invariant.short, all.1, length-take-le c.automata.result states))
