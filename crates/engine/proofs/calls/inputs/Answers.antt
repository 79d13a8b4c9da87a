use Rattle.std.proofs.Common.{length, ◌∙◌, arith, rules, tests}
use Rattle.std.proofs.lemmas.Iterator.{YieldsList-from_range}
use Rattle.std.proofs.lemmas.Iterator.Consumers.{YieldsList-from_filter}
use Rattle.chart.specs.Decoded.{decode, input}
use Rattle.chart.proofs.Decoding.{few_signals}
use Rattle.engine.proofs.Inputs.{fold_numbered, numbered_inputs}
use Rattle.engine.proofs.calls.inputs.Goals as goal

pub returns : goal.returns
returns c j =
    let bytes = c.args.chart.now.bytes.now in
    let chart = decode bytes in
    let n = length chart.signals in
    fold_numbered _ _ c.fold.ensures.ran
    (YieldsList-from_filter _ (input chart) (YieldsList-from_range 0 n n (cc) (omega arith)) c.filter.ensures.closure (λ x b q k. search (rules, tests)))
    (λ a x b f' k. search rules)
    j
    ∙ numbered_inputs chart (few_signals bytes c.args.chart.now.layout) j
