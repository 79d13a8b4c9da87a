use Rattle.std.proofs.Common.{◌<◌, arith}
use Rattle.fixpoint.proofs.Queues.{length_queue, queue_push}
use Rattle.fixpoint.proofs.ring.Ring.push.Goals as goal

pub invariant_of-self : goal.invariant_of-self
invariant_of-self c =
    let r = c.args.self.now in
    record { inside = r.inside; within = omega (arith, length_queue r.bytes r.head r.len) }

pub returns : goal.returns
returns c =
    let r = c.args.self.now in
    let room : r.len < 128 = omega (arith, length_queue r.bytes r.head r.len) in
    queue_push r.bytes r.head r.len c.args.x (omega arith) r.inside room
