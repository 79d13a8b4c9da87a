use Rattle.std.proofs.Common.{drop, sym, refl, ap, ◌∙◌}
use Rattle.fixpoint.specs.Arrival.{queue, front}
use Rattle.fixpoint.proofs.Queues.{queue_none, queue_front}
use Rattle.fixpoint.proofs.ring.Ring.pop.Goals as goal

pub returns-then-self-eq0 : goal.returns-then-self-eq0
returns-then-self-eq0 c =
    let r = c.args.self.now in
    let none = ap (queue r.bytes r.head) c.if-self-eq0.true ∙ queue_none r.bytes r.head in
    record { oldest = sym (ap front none); rest = none ∙ sym (ap (drop 1) none); empty = refl }

pub returns : goal.returns
returns c =
    let r = c.args.self.now in
    let all = queue_front r.bytes r.head r.len c.if-self-eq0.false in
    record { oldest = sym (ap front all); rest = sym (ap (drop 1) all); empty = tt }
