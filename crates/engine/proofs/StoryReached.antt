-- Along a story, the states that are held and the signals that are present lie in the reachable sets. Assumes nothing.
use Rattle.std.proofs.Common.{ℕ, List, [], ◌∷◌, sym, subst}
use Rattle.fixpoint.specs.System.{Assignment, Closed, least}
use Rattle.chart.specs.Decoded.{decode}
use Rattle.chart.specs.Layout.{Layout}
use Rattle.status.specs.Equations.{status_equations}
use Rattle.analysis.specs.Reach.{reach_equations}
use Rattle.bits.specs.declared.set.NumberSet.{NumberSet as StateSet}
use Rattle.engine.specs.Answer.{Held, at_start, outcome_of}
use Rattle.engine.specs.Reached.{ReplyPossible, StatesReached, StoryPossible}
use Rattle.engine.specs.Story.{Behind, Follows, Told, answered, was_reset}
use Rattle.engine.proofs.Outcomes.{by_outcome}
use Rattle.engine.proofs.Possible.{signals_possible}
use Rattle.engine.proofs.Reaching.{next_reached, start_reached}

module _ (bs : List ℕ) (layout : ∥ Layout bs ∥₁) (sets : List StateSet) (long : Assignment (reach_equations (decode bs)) sets) (closed : Closed (reach_equations (decode bs)) sets) where
  -- after an instant from states that are reached, the states held are reached, and the signals present in an acceptance are possible
  pub outcome_reached : (h : Held) (mask places room : ℕ) → StatesReached (decode bs) sets h.states
      → StatesReached (decode bs) sets (outcome_of (decode bs) h mask places room).after.states × ReplyPossible (decode bs) sets (outcome_of (decode bs) h mask places room).reply
  outcome_reached h mask places room held =
      let c = decode bs in
      let xs = least (status_equations c h.states mask) in
      let there = signals_possible c sets h.states held long closed mask in
      let after = next_reached bs layout sets long closed h.states held xs there in
      by_outcome c h mask places room (λ o. StatesReached c sets o.after.states × ReplyPossible c sets o.reply) (λ _. (held, tt)) (λ _. (after, there))

  -- along a story from states that are reached, the states held at its end are reached, and the signals present in its acceptances are possible
  pub follows_reached : (from to : Held) (story : List Told) → Follows (decode bs) from story to → StatesReached (decode bs) sets from.states
      → StatesReached (decode bs) sets to.states × StoryPossible (decode bs) sets story
  follows_reached from to [] same held = (subst (λ h. StatesReached (decode bs) sets h.states) same held, tt)
  follows_reached from to (was_reset ∷ later) rest held = follows_reached (at_start (decode bs)) to later rest (start_reached bs layout sets long closed)
  follows_reached from to (answered mask places room reply ∷ later) rest held =
      let here = outcome_reached from mask places room held in
      let more = follows_reached (outcome_of (decode bs) from mask places room).after to later rest.1 here.0 in
      (more.0, (subst (ReplyPossible (decode bs) sets) (sym rest.0) here.1, more.1))

  -- so for every story over the file
  pub story_reached : (story : List Told) (held : Held) → Behind bs story held → StatesReached (decode bs) sets held.states × StoryPossible (decode bs) sets story
  story_reached story held behind = follows_reached (at_start (decode bs)) held story behind (start_reached bs layout sets long closed)
