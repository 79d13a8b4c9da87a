use Rattle.std.proofs.Common.{◌<◌, sym, ap, ◌∙◌, arith}
use Rattle.fixpoint.proofs.Waiting.{put_small, waits_more, waits_less}
use Rattle.fixpoint.proofs.solver.put_readers.Goals as goal
use Rattle.fixpoint.proofs.solver.put_readers.Goals.{then-reads, else-reads}

pub loop-j-preserved : goal.loop-j-preserved
loop-j-preserved g c k =
    let s = g.S.System.equations c.args.system.now in
    let waiting = g.W.Worklist.waiting in
    let laws = g.S.System.laws c.args.system.now in
    let small : c.loop-j.j < 128 = omega (arith, laws.few) in
    elim c.if-reads.branch [
      | then-reads w ↦ waits_more (waiting c.args.worklist.now) (λ j. s.reads j c.args.i) (waiting c.loop-j.worklist k) (waiting c.if-reads.worklist k) c.loop-j.j k
          (sym c.reads.ensures ∙ w.if-reads.true) (c.loop-j.invariant k) (ap (λ v. waiting v k) w.worklist-is ∙ put_small w.put.ensures small k)
      | else-reads w ↦ ap (λ v. waiting v k) w.worklist-is ∙ waits_less (waiting c.args.worklist.now) (λ j. s.reads j c.args.i) (waiting c.loop-j.worklist k) c.loop-j.j k
          (sym c.reads.ensures ∙ w.if-reads.false) (c.loop-j.invariant k)
    ]
