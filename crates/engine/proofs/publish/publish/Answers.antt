use Rattle.std.proofs.Common.{subst, arith}
use Rattle.fixpoint.specs.System.{Assignment}
use Rattle.fixpoint.proofs.Leastness.{solution_closed}
use Rattle.analysis.specs.Reach.{reach_equations}
use Rattle.analysis.specs.ReachLaws.{chart_laws}
use Rattle.engine.specs.Runner.{holding, rules}
use Rattle.engine.specs.Story.{Behind}
use Rattle.engine.proofs.Publishing.{solves, then_worked, worked}
use Rattle.engine.proofs.StoryReached.{story_reached}
use Rattle.engine.proofs.Whole.{whole}
use Rattle.engine.proofs.publish.publish.Goals as goal

pub returns-clause-table : goal.returns-clause-table
returns-clause-table g c = solves c.solve-table.ensures.refused c.solve-table.ensures.solved

pub returns-clause-sets : goal.returns-clause-sets
returns-clause-sets g c = solves c.reach-sets.ensures.refused c.reach-sets.ensures.solved

pub returns-clause-worked : goal.returns-clause-worked
returns-clause-worked g c = then_worked g.W.Worklist.waiting
    (then_worked g.W.Worklist.waiting (worked c.solve-table.ensures.refused c.solve-table.ensures.solved) (worked c.reach-sets.ensures.refused c.reach-sets.ensures.solved))
    c.make-answer.ensures.worked

pub returns-clause-reached : goal.returns-clause-reached
returns-clause-reached g c = λ enough story b.
    let r = c.args.runner.now in
    let bytes = r.chart.bytes.now in
    let layout = r.chart.layout in
    let sets = c.reach-sets.new.area in
    let h = holding c.make-answer.new.runner in
    let long : Assignment (reach_equations (rules r)) sets = omega (arith, c.reach-sets.auto.area) in
    story_reached bytes layout sets long (solution_closed (reach_equations (rules r)) (chart_laws bytes layout) sets (c.reach-sets.ensures.solved enough).1.solution) story h (subst (λ bs. Behind bs story h) c.make-answer.ensures.same b)

pub returns-clause-theorem : goal.returns-clause-theorem
returns-clause-theorem g c = whole
