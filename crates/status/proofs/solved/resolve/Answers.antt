use Rattle.std.proofs.Common.{◌&&◌, ltb, length, get_or, ap, ◌∙◌, arith}
use Rattle.std.proofs.lemmas.List.{length-take}
use Rattle.chart.proofs.Decoding.{few_signals}
use Rattle.status.specs.Solved.{is_unknown}
use Rattle.status.specs.Status.{unknown}
use Rattle.status.specs.StatusSystem.{chart_of, states_of}
use Rattle.status.specs.declared.status.Status.{Status}
use Rattle.status.proofs.Resolving.{not_refused, resolved, unknown_taken}
use Rattle.status.proofs.solved.resolve.Goals as goal

pub unknown_signals-requires : goal.unknown_signals-requires
unknown_signals-requires g c =
    let system = c.args.system.now in
    let few = few_signals system.chart.bytes.now system.chart.layout in
    omega (arith, length-take {A = Status}, c.count.ensures)

pub returns : goal.returns
returns g c =
    let system = c.args.system.now in
    let chart = chart_of system in
    let few = few_signals system.chart.bytes.now system.chart.layout in
    let enough = not_refused _ _ (length c.args.area.now) (length chart.signals) (λ l. (c.in_ok-solve.ensures.refused l).0) in
    let after = c.solve.new.area in
    resolved chart (states_of system) system.mask few c.args.area.now after (g.W.Worklist.waiting c.solve.new.worklist)
    (c.in_ok-solve.ensures.solved enough).1 c.unknown_signals.result
    (λ s. c.unknown_signals.ensures s ∙ unknown_taken c.count.result after s (omega (arith, c.count.ensures, c.solve.auto.area)) ∙ ap (λ m. ltb s m && is_unknown (get_or after s unknown)) c.count.ensures)
