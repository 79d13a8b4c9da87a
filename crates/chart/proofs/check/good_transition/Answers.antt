use Rattle.std.proofs.Common.{◌+◌, ◌*◌, ap, ◌∙◌, rules}
use Rattle.chart.specs.Decoded.{transition_of}
use Rattle.chart.proofs.RecordBytes.{transition_from}
use Rattle.chart.proofs.check.good_transition.Goals as goal

pub returns-then-transition-states-2 : goal.returns-then-transition-states-2
returns-then-transition-states-2 c =
    let bs = c.args.bytes.now in
    let is = c.from-transition.ensures ∙ ap transition_of c.array_at.ensures ∙ transition_from bs (c.args.first + 31 * c.args.i) in
    search (rules, is, ap (λ t. t.automaton) is, ap (λ t. t.source) is, ap (λ t. t.target) is, ap (λ t. t.needed) is, ap (λ t. t.forbidden) is, ap (λ t. t.emitted) is)
