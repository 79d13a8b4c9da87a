use Rattle.std.proofs.Common.{Bool, ◌&&◌, eqb, filter, fold, take, ◌∙◌, rules}
use borrow.Author.Tests.{tests}
use Rattle.std.proofs.lemmas.Iterator.Consumers.{YieldsList-at, YieldsList-from_filter}
use Rattle.chart.specs.declared.transition.Transition.{Transition}
use Rattle.status.specs.Equations.{guard, live}
use Rattle.status.specs.Status.{both, opposite}
use Rattle.status.specs.StatusSystem.{chart_of, states_of}
use Rattle.status.specs.Words.{told}
use Rattle.status.specs.declared.status.Status.{Status}
use Rattle.chart.proofs.Chains.{items_of_run, over_first}
use Rattle.status.proofs.Parts.{all_folded}
use Rattle.status.proofs.equations.StatusSystem.firing.Goals as goal

pub returns : goal.returns
returns c =
    let self = c.args.self.now in
    let u = told c.args.words in
    let t = c.args.t.now in
    let test : Transition → Bool = λ e. live (states_of self) e && eqb e.automaton t.automaton in
    let turn : Status → Transition → Status = λ a e. both a (opposite (guard u e)) in
    let earlier = over_first (chart_of self).transitions c.args.k c.take.ensures.source c.take.ensures.count c.all_transitions.ensures in
    let run = c.fold.ensures.runs in
    let rivals_of = items_of_run run.0 run.1 run.2
    (YieldsList-from_filter _ test (YieldsList-at c.filter.ensures.source earlier) c.filter.ensures.closure (λ x b q k. search (rules, tests))) in
    run.3 turn (λ a e r f k. search (rules, tests))
    ∙ (λ i. fold turn (c.guard.ensures i) (rivals_of i))
    ∙ all_folded (λ e. opposite (guard u e)) (guard u t) (filter test (take c.args.k (chart_of self).transitions))
