-- The whole promise holds. Assumes nothing.
use Rattle.std.proofs.Common.{◌≡◌, ℕ, List, map, sym, ap, ◌∙◌, arith}
use Rattle.fixpoint.specs.System.{Assignment}
use Rattle.fixpoint.proofs.Leastness.{solution_closed}
use Rattle.chart.specs.Decoded.{decode}
use Rattle.analysis.specs.Reach.{reach_equations}
use Rattle.analysis.specs.ReachLaws.{chart_laws}
use Rattle.engine.specs.Answer.{Held, at_start}
use Rattle.engine.specs.Story.{Behind, Told, call_of, held_after, story_of}
use Rattle.engine.specs.Theorem.{Theorem}
use Rattle.engine.proofs.Stories.{one_story, story_only}
use Rattle.engine.proofs.StoryLaw.{story_law}
use Rattle.engine.proofs.StoryReached.{story_reached}
use Rattle.engine.proofs.Unique.{one_reach}

-- two stories with the same calls are the same
same_story : (bytes : List ℕ) (story other : List Told) (held end : Held) → Behind bytes story held → Behind bytes other end → map call_of story ≡ map call_of other → (story ≡ other) × (held ≡ end)
same_story bytes story other held end a b same =
    let c = decode bytes in
    let from = at_start c in
    let p = story_only c from held story a in
    let q = story_only c from end other b in
    (p.0 ∙ ap (story_of c from) same ∙ sym q.0, p.1 ∙ ap (held_after c from) same ∙ sym q.1)

pub whole : Theorem
whole bytes layout = record {
  one = one_story bytes;
  alike = same_story bytes;
  instants = story_law bytes ∣ layout ∣₁;
  sets = one_reach bytes ∣ layout ∣₁;
  reached = λ reach low.
      let long = low.long in
      let enough : Assignment (reach_equations (decode bytes)) reach = omega arith in
      story_reached bytes ∣ layout ∣₁ reach enough (solution_closed (reach_equations (decode bytes)) (chart_laws bytes ∣ layout ∣₁) reach low.solution);
}
