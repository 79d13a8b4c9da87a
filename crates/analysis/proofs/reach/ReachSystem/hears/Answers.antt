use Rattle.std.proofs.Common.{Bool, ◌&&◌, ◌||◌, sym, ap, ◌∙◌, rules}
use Rattle.std.proofs.lemmas.Iterator.Search.{any_from_yields_List}
use Rattle.chart.specs.Decoded.{decode}
use Rattle.chart.specs.declared.transition.Transition.{Transition}
use Rattle.chart.proofs.Chains.{over}
use Rattle.analysis.specs.Reach.{adds, bears, owned_by}
use Rattle.analysis.proofs.Loops.{some_is_any}
use Rattle.analysis.proofs.reach.ReachSystem.hears.Goals as goal

pub returns-else-owned_by : goal.returns-else-owned_by
returns-else-owned_by c =
    let chart = decode c.args.self.now.chart.bytes.now in
    let p : Transition → Bool = λ t. adds chart c.args.i t && bears chart c.args.j t in
    let found = any_from_yields_List p c.any.new.self _ _ c.any.ensures.ran (over _ c.all_transitions.ensures) (λ x b q k. search rules) in
    let owned = sym c.if-owned_by.false ∙ c.owned_by.ensures ∙ ap (owned_by c.args.j) c.automaton.ensures in
    λ k. owned k || (found ∙ some_is_any p chart.transitions) k
