use Rattle.std.proofs.Common.{rules}
use Rattle.chart.proofs.TransitionRules.{no_input_by}
use Rattle.chart.proofs.check.good_masks.Goals as goal

pub returns-then-transition-eq0 : goal.returns-then-transition-eq0
returns-then-transition-eq0 c =
    let last = no_input_by c.args.bytes.now c.args.transition.now.emitted c.args.inputs c.requires.1 in
    search (rules, last)
