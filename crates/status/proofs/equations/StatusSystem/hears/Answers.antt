use Rattle.std.proofs.Common.{[], refl, ◌&&◌, take, ◌∙◌, rules}
use borrow.Author.Tests.{tests}
use Rattle.std.proofs.lemmas.Iterator.Search.{any_from_yields_List}
use Rattle.status.specs.Equations.{bears, emits}
use Rattle.status.specs.StatusSystem.{chart_of, states_of}
use Rattle.chart.proofs.Chains.{count_fits, over_numbered}
use Rattle.status.proofs.Parts.{hears_numbered}
use Rattle.status.proofs.equations.StatusSystem.hears.Goals as goal

pub any-requires-clause-can : goal.any-requires-clause-can
any-requires-clause-can c = (tt, tt, count_fits c.enumerate.result.count c.enumerate.result.iter c.enumerate.ensures.count)

pub returns : goal.returns
returns c =
    let self = c.args.self.now in
    let states = states_of self in
    let ts = (chart_of self).transitions in
    let numbered = over_numbered ts c.enumerate.ensures.source c.enumerate.ensures.count c.all_transitions.ensures in
    any_from_yields_List (λ p. emits states c.args.s p.1 && bears states c.args.j (take p.0 ts) p.1) c.any.new.self _ c.any.result c.any.ensures.ran numbered (λ x b q k. search (rules, tests))
    ∙ hears_numbered states c.args.s ts c.args.j [] ts 0 refl refl
