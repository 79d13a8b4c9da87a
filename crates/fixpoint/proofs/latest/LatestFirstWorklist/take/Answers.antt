use Rattle.std.proofs.Common.{Some, sym, ap, ◌∙◌, subst}
use Rattle.fixpoint.specs.Held.{small_without}
use Rattle.fixpoint.specs.Numbers.{small}
use Rattle.fixpoint.specs.Worklist.{Taken}
use Rattle.fixpoint.proofs.Layers.{latest_same, take_newest, take_below, take_none}
use Rattle.fixpoint.proofs.latest.LatestFirstWorklist.take.Goals as goal
use Rattle.fixpoint.proofs.latest.LatestFirstWorklist.take.Goals.{in-Some, in-None+in_ok-i-in-None}

pub returns-in_err-i-in-None-clause-taken : goal.returns-in_err-i-in-None-clause-taken
returns-in_err-i-in-None-clause-taken g c =
    let w = c.args.self.now in
    let none = take_none g.W.Worklist.waiting w.eight.items w.below c.take.new.self c.in-None.ensures c.in_err-i-in-None.ensures in
    let same = c.in_err-i-in-None.ensures.1 in
    rw c.from_residual.ensures (none, search latest_same)

pub invariant_of-self-2 : goal.invariant_of-self-2
invariant_of-self-2 g c = record { fits = ap small c.leave.ensures ∙ small_without _ c.args.self.now.eight.items c.args.self.now.fits }

pub returns-clause-taken : goal.returns-clause-taken
returns-clause-taken g c =
    let waiting = g.W.Worklist.waiting in
    let xs = c.args.self.now.eight.items in
    let ys = c.leave.new.table.items in
    let below = c.args.self.now.below in
    let i = c.match-newest_outside.i in
    elim c.match-newest_outside.branch [
      | in-Some w ↦ rw w.self-is (take_newest waiting xs ys i below (ap Some (w.i-is ∙ w.from-i.ensures) ∙ w.in-Some.ensures) c.leave.ensures)
      | in-None+in_ok-i-in-None w ↦ rw w.self-is (take_below waiting xs ys i below w.take.new.self (subst (λ n. Taken waiting below (Some n) w.take.new.self) (sym w.i-is) w.in_ok-i-in-None.ensures) c.leave.ensures)
    ]
