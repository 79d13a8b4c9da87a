use Rattle.std.proofs.Common.{◌≡◌, get_or, arith}
use Rattle.std.proofs.lemmas.Grind.{common_steps}
use Rattle.bits.specs.Bits.{bit}
use Rattle.status.specs.Solved.{is_unknown}
use Rattle.status.specs.Status.{unknown}
use Rattle.status.proofs.Reading.{none_yet, one_more}
use Rattle.status.proofs.solved.unknown_signals.Goals as goal

pub loop-s-init : goal.loop-s-init
loop-s-init c = none_yet (λ j. is_unknown (get_or c.args.area.now j unknown))

pub loop-s-preserved : goal.loop-s-preserved
loop-s-preserved c k =
    let same : c.eq.result ≡ is_unknown (get_or c.args.area.now c.loop-s.s unknown) = grind (arith, common_steps) in
    one_more (λ j. is_unknown (get_or c.args.area.now j unknown)) (bit c.loop-s.mask k) (bit c.marked-mask.result k) c.eq.result c.loop-s.s k same (c.loop-s.invariant k) (c.marked-mask.ensures k)
