use Rattle.std.proofs.Common.{ap, ◌∙◌, rules}
use Rattle.std.proofs.lemmas.Iterator.Consumers.{fold_from_yields_List}
use Rattle.bits.specs.Set.{only_if, union}
use Rattle.bits.specs.declared.set.NumberSet.{NumberSet as StateSet}
use Rattle.chart.specs.declared.transition.Transition.{Transition}
use Rattle.chart.proofs.Chains.{over}
use Rattle.analysis.specs.Reach.{moves, started, targets}
use Rattle.analysis.specs.Reached.{chart_of, signal_in, state_in}
use Rattle.analysis.proofs.Loops.{targets_folded}
use Rattle.analysis.proofs.reached.Reached.states_of.Goals as goal

pub returns : goal.returns
returns c =
    let r = c.args.self.now in
    let p = moves (state_in r) (signal_in r) c.args.k in
    let ts = (chart_of r).transitions in
    let add : StateSet → Transition → StateSet = λ set t. union set (only_if (p t) t.target) in
    fold_from_yields_List _ add _ _ c.fold.ensures.ran (over _ c.all_transitions.ensures) (λ a x b q k. search rules)
    ∙ targets_folded p c.started.result ts
    ∙ ap (λ a. union a (targets p ts)) (c.started.ensures ∙ ap (started (state_in r)) c.automaton.ensures)
