use Rattle.std.proofs.Common.{◌≡◌, drop, sym, refl, subst, arith}
use Rattle.fixpoint.specs.Solver.{Solved}
use Rattle.fixpoint.proofs.Solving.{working_raised, working_end, left_dropped, left_raised}
use Rattle.fixpoint.proofs.solver.solve.Goals as goal

pub loop-i-smaller-then-i-n : goal.loop-i-smaller-then-i-n
loop-i-smaller-then-i-n g c =
    let s = g.S.System.equations c.args.system.now in
    let waiting = g.W.Worklist.waiting in
    let took = c.in-Some.ensures in
    left_raised s (g.S.System.laws c.args.system.now) c.loop-i.area c.raise.new.area
    (waiting c.loop-i.worklist) (waiting c.take.new.self) (waiting c.raise.new.worklist) c.in-Some.i
    c.loop-i.invariant.long (omega (arith, c.count-n.ensures)) (g.met.W.Worklist.few c.loop-i.worklist c.in-Some.i took.0) took.0 took.1 c.raise.ensures

pub loop-i-preserved-then-i-n : goal.loop-i-preserved-then-i-n
loop-i-preserved-then-i-n g c =
    let s = g.S.System.equations c.args.system.now in
    let waiting = g.W.Worklist.waiting in
    working_raised s (g.S.System.laws c.args.system.now) c.clear.new.area c.loop-i.area c.raise.new.area
    (waiting c.loop-i.worklist) (waiting c.take.new.self) (waiting c.raise.new.worklist) c.in-Some.i
    (omega (arith, c.count-n.ensures)) c.loop-i.invariant c.in-Some.ensures.1 c.raise.ensures

pub loop-i-smaller : goal.loop-i-smaller
loop-i-smaller g c =
    let waiting = g.W.Worklist.waiting in
    let took = c.in-Some.ensures in
    left_dropped (g.S.System.equations c.args.system.now) (g.S.System.laws c.args.system.now) c.loop-i.area
    (waiting c.loop-i.worklist) (waiting c.take.new.self) c.in-Some.i
    (g.met.W.Worklist.few c.loop-i.worklist c.in-Some.i took.0) took.0 took.1

pub returns : goal.returns
returns g c =
    let s = g.S.System.equations c.args.system.now in
    let waiting = g.W.Worklist.waiting in
    let none = c.in_default.ensures in
    let rest : drop s.count c.clear.new.area ≡ drop s.count c.args.area.now = rw c.count-n.ensures at c.clear.ensures.1 in
    let solved = working_end s (g.S.System.laws c.args.system.now) g.row.S-Element.coded c.args.area.now c.clear.new.area c.loop-i.area
    (waiting c.loop-i.worklist) c.loop-i.invariant rest none.0 in
    record {
      refused = λ l. absurd (omega (arith, c.count-n.ensures));
      solved = λ _. (refl, subst (λ v. Solved s c.args.area.now c.loop-i.area (waiting v)) (sym none.1) solved);
    }
