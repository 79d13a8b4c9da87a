use Rattle.std.proofs.Common.{◌≡◌, ◌&&◌, eqb, inl, ◌∙◌, rules, tests}
use Rattle.std.specs.Option.{option_map}
use Rattle.std.proofs.lemmas.Iterator.Search.{find_from_yields_List}
use Rattle.chart.proofs.Chains.{over_numbered}
use Rattle.chart.specs.Decoded.{decode}
use Rattle.fixpoint.specs.Marks.{marked}
use Rattle.reaction.proofs.Moving.{first_fired}
use Rattle.reaction.proofs.Numbered.{numbers_fit}
use Rattle.reaction.proofs.next.fired_of.Goals as goal

pub find-requires-clause-can : goal.find-requires-clause-can
find-requires-clause-can c =
    (tt, tt, inl (numbers_fit c.args.chart.now.bytes.now c.enumerate.result c.all_transitions.result c.all_transitions.ensures c.enumerate.ensures.source c.enumerate.ensures.count c.args.chart.now.layout))

pub returns : goal.returns
returns c =
    let road = over_numbered (decode c.args.chart.now.bytes.now).transitions c.enumerate.ensures.source c.enumerate.ensures.count c.all_transitions.ensures in
    let found = find_from_yields_List (λ p. marked c.args.fired.set p.0 && eqb p.1.automaton c.args.k) c.find.new.self _ c.find.result c.find.ensures.ran road (λ x b q c. search (rules, tests)) in
    let own : c.map.result ≡ option_map (λ p. p.1) c.find.result = search rules in
    own ∙ first_fired (decode c.args.chart.now.bytes.now) (marked c.args.fired.set) c.args.k c.find.result found
