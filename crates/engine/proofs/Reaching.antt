-- The states that are held at the start, and after an instant, are reached. Assumes nothing.
use Rattle.std.proofs.Common.{◌≡◌, ℕ, ◌<◌, true, eqb, ltb, List, length, Some, None, Option, refl, subst}
use Rattle.std.proofs.lemmas.Bool.{and_parts, eqb-true, ltb-true}
use Rattle.fixpoint.specs.System.{Assignment, Closed}
use Rattle.chart.specs.Decoded.{decode, transition}
use Rattle.chart.specs.Layout.{Layout}
use Rattle.chart.specs.declared.automaton.Owner.{Owner}
use Rattle.status.specs.Equations.{assigned, guard, live}
use Rattle.status.specs.Fired.{fires, has_fired}
use Rattle.status.specs.declared.status.Status.{Status}
use Rattle.reaction.specs.Next.{automaton, next, no_automaton, padded, starting}
use Rattle.reaction.proofs.Keeping.{OfOwner, next_kept, starting_kept}
use Rattle.reaction.proofs.Moving.{moves_it}
use Rattle.analysis.specs.Reach.{entered, reach_equations, reached_in}
use Rattle.bits.specs.declared.set.NumberSet.{NumberSet as StateSet}
use Rattle.analysis.proofs.Closure.{first_reached, target_reached}
use Rattle.engine.specs.Reached.{SignalsPossible, StatesReached}
use Rattle.engine.proofs.Possible.{assigned_possible, guard_possible}

module _ (bs : List ℕ) (layout : ∥ Layout bs ∥₁) (sets : List StateSet) (long : Assignment (reach_equations (decode bs)) sets) (closed : Closed (reach_equations (decode bs)) sets) where
  -- a state of an automaton is reached
  abbrev Reached : ℕ → ℕ → Type 0
  Reached k s = reached_in (decode bs) sets k s ≡ true

  -- where the owner state is reached, or there is no owner, the automaton is entered
  owner_enters : (o : Option Owner) → OfOwner Reached o → entered (reached_in (decode bs) sets) o ≡ true
  owner_enters None h = refl
  owner_enters (Some o) h = h

  -- and its first state is reached
  owned_reached : (k : ℕ) → k < length (decode bs).automata → OfOwner Reached (automaton (decode bs) k).owner → Reached k (automaton (decode bs) k).first
  owned_reached k l h = first_reached bs layout sets long closed k no_automaton l (owner_enters (automaton (decode bs) k).owner h)

  -- the states that are held at the start are reached
  pub start_reached : StatesReached (decode bs) sets (padded (starting (decode bs)))
  start_reached = starting_kept (decode bs) Reached owned_reached

  module _ (states : List (Option ℕ)) (held : StatesReached (decode bs) sets states) (xs : List Status) (there : SignalsPossible (decode bs) sets xs) where
    -- the target of a transition of automaton k that fired is reached
    fired_reached : (k i : ℕ) → moves_it (decode bs) (has_fired (decode bs) states xs) k i ≡ true → Reached k (transition (decode bs) i).target
    fired_reached k i e =
        let c = decode bs in
        let t = transition c i in
        let u = assigned (length c.signals) xs in
        let parts = and_parts (has_fired c states xs i) (eqb t.automaton k) e in
        let fired = and_parts (ltb i (length c.transitions)) (fires c states u i) parts.0 in
        let alive = and_parts (live states t) _ fired.1 in
        let can = guard_possible c sets states held u (assigned_possible c sets xs there) t alive.0 (and_parts (guard u t).present _ alive.1).0 in
        subst (λ j. Reached j t.target) (eqb-true t.automaton k parts.1)
        (target_reached bs layout sets long closed i (ltb-true i (length c.transitions) fired.0) can)

    -- the states that are held after an instant are reached
    pub next_reached : StatesReached (decode bs) sets (padded (next (decode bs) (has_fired (decode bs) states xs) states))
    next_reached = next_kept (decode bs) Reached owned_reached (has_fired (decode bs) states xs) states held fired_reached
