use Rattle.std.proofs.Common.{◌∙◌, rules}
use Rattle.std.proofs.lemmas.Iterator.Search.{any_from_yields_List}
use Rattle.chart.proofs.Chains.{over}
use Rattle.analysis.specs.Reach.{emits}
use Rattle.analysis.specs.Reached.{chart_of, signal_in, state_in}
use Rattle.analysis.proofs.Loops.{some_is_any}
use Rattle.analysis.proofs.reached.Reached.emitted.Goals as goal

pub returns : goal.returns
returns c =
    let r = c.args.self.now in
    let p = emits (state_in r) (signal_in r) c.args.s in
    any_from_yields_List p c.any.new.self _ _ c.any.ensures.ran (over _ c.all_transitions.ensures) (λ x b q k. search rules) ∙ some_is_any p (chart_of r).transitions
