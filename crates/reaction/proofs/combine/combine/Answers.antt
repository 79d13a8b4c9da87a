use Rattle.std.proofs.Common.{◌∙◌, arith}
use Rattle.reaction.proofs.Folding.{combined_all, combined_more, combined_shuffled}
use Rattle.reaction.proofs.combine.combine.Goals as goal

pub loop-amount-preserved : goal.loop-amount-preserved
loop-amount-preserved g c =
    combined_more (g.K.Combining.combination c.args.kind.now) c.args.amounts.now c.loop-amount.amount-index (omega arith) c.loop-amount.invariant c.step.ensures c.together-value.ensures

pub returns : goal.returns
returns g c =
    let kind = g.K.Combining.combination c.args.kind.now in
    let amounts = c.args.amounts.now in
    let all = combined_all kind amounts c.loop-amount.amount-index (omega arith) c.loop-amount.invariant in
    record {
      value = all;
      any_order = λ others h. all ∙ combined_shuffled kind (g.met.K.Combining.lawful c.args.kind.now) amounts others h;
    }
