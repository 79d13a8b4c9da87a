use Rattle.std.proofs.Common.{Bool, ◌&&◌, ◌||◌, eqb, filter, take, ap, ◌∙◌, rules}
use borrow.Author.Tests.{tests}
use Rattle.std.proofs.lemmas.Iterator.Search.{any_from_yields_List}
use Rattle.bits.specs.Members.{some}
use Rattle.chart.specs.declared.transition.Transition.{Transition}
use Rattle.status.specs.Equations.{live, mentions}
use Rattle.status.specs.StatusSystem.{chart_of, states_of}
use Rattle.chart.proofs.Chains.{over_first}
use Rattle.status.proofs.Parts.{some_kept}
use Rattle.status.proofs.equations.StatusSystem.bears.Goals as goal

pub returns-else-mentions : goal.returns-else-mentions
returns-else-mentions c =
    let self = c.args.self.now in
    let t = c.args.t.now in
    let ts = take c.args.k (chart_of self).transitions in
    let rival : Transition → Bool = λ e. live (states_of self) e && eqb e.automaton t.automaton in
    let earlier = over_first (chart_of self).transitions c.args.k c.take.ensures.source c.take.ensures.count c.all_transitions.ensures in
    any_from_yields_List (λ e. rival e && mentions c.args.j e) c.any.new.self _ c.any.result c.any.ensures.ran earlier (λ x b q k. search (rules, tests))
    ∙ some_kept rival (mentions c.args.j) ts
    ∙ ap (λ b. b || some (mentions c.args.j) (filter rival ts)) c.if-mentions.ensures
