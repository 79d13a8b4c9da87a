use Rattle.std.proofs.Common.{arith}
use Rattle.fixpoint.specs.Held.{pushed_small}
use Rattle.fixpoint.proofs.Layers.{put_room, put_full}
use Rattle.fixpoint.proofs.Waiting.{put_accepted}
use Rattle.fixpoint.proofs.latest.LatestFirstWorklist.put.Goals as goal

pub invariant_of-self : goal.invariant_of-self
invariant_of-self g c = record { fits = pushed_small _ _ c.args.i c.push.result c.push.ensures c.args.self.now.fits (omega arith) }

pub invariant_of-self-in_default : goal.invariant_of-self-in_default
invariant_of-self-in_default g c = record { fits = pushed_small _ _ c.args.i c.push.result c.push.ensures c.args.self.now.fits (omega arith) }

pub returns-in-Some-clause-put : goal.returns-in-Some-clause-put
returns-in-Some-clause-put g c =
    let w = c.args.self.now in
    put_accepted (omega arith) (put_full g.W.Worklist.waiting w.eight.items c.push.new.table.items c.args.i w.below c.in-Some.oldest c.from.result c.put.new.self c.put.result c.in-Some.ensures c.from.ensures w.fits c.put.ensures)

pub returns-in_default-clause-put : goal.returns-in_default-clause-put
returns-in_default-clause-put g c =
    let w = c.args.self.now in
    put_accepted (omega arith) (put_room g.W.Worklist.waiting w.eight.items c.push.new.table.items c.args.i w.below c.in_default.ensures)
