-- What one instant comes to, from the decoded chart, the configuration and the inputs alone. Assumes nothing.
use Rattle.std.specs.Prelude.{◌≡◌, ℕ, Bool, cond, List, length, take, Err, Option, Result, MatchResult, ◌==◌, slice_index_or}
use Rattle.bits.specs.Masks.{mask_of}
use Rattle.fixpoint.specs.Marks.{marked}
use Rattle.fixpoint.specs.System.{least}
use Rattle.chart.specs.Decoded.{Decoded}
use Rattle.status.specs.Equations.{status_equations}
use Rattle.status.specs.Fired.{FiredUnder, has_fired}
use Rattle.status.specs.Solved.{Resolved, is_unknown}
use Rattle.status.specs.Status.{unknown}
use Rattle.status.specs.declared.status.Status.{Status}
use Rattle.reaction.specs.Next.{next, padded}
use Rattle.reaction.specs.Value.{values}
use Rattle.reaction.specs.declared.fault.Fault.{Fault}
use Rattle.reaction.specs.declared.fault.Fault.TheVariants.{Instant}
use Rattle.reaction.specs.declared.fault.InstantFault.TheVariants.{Unresolved}
use Rattle.reaction.specs.declared.react.Step.{Step}

-- an instant leaves signals unresolved, or it is decided
pub data Reaction : Type 0 where
  -- the mask of the unresolved signals
  undecided : (signals : ℕ) → Reaction
  -- the status of each signal, the value of each signal, the state of each automaton afterwards
  decided : (statuses : List Status) (values after : List (Option ℕ)) → Reaction

-- the mask of the signals that are unknown
abbrev pub unresolved_in : Decoded → List Status → ℕ
unresolved_in c statuses = mask_of (λ s. is_unknown (slice_index_or statuses s unknown)) (length c.signals)

-- what these statuses come to
abbrev pub reaction : Decoded → List (Option ℕ) → List Status → Reaction
reaction c states statuses = cond (unresolved_in c statuses == 0)
    (decided statuses (values c (has_fired c states statuses) statuses) (next c (has_fired c states statuses) states))
    (undecided (unresolved_in c statuses))

-- an instant comes to what the least solution of its equations comes to
abbrev pub react : Decoded → List (Option ℕ) → ℕ → Reaction
react c states mask = reaction c states (least (status_equations c states mask))

-- an answer that agrees with a reaction, with these statuses in the area
abbrev pub Agrees : Decoded → List (Option ℕ) → List Status → Result Step Fault → Reaction → Type 0
Agrees c states area answer (undecided signals) = answer ≡ Err (Instant (Unresolved signals))
Agrees c states area answer (decided statuses values' after) = (take (length c.signals) area ≡ statuses) × MatchResult answer
    (λ step. FiredUnder c states area (marked step.fired.set) × (values c (marked step.fired.set) area ≡ values') × (step.after.states ≡ padded after))
    (λ _. ⊥)

-- an instant in an area with places enough: the area before and after, what then waits, and the answer
pub record Reacts (c : Decoded) (states : List (Option ℕ)) (mask : ℕ) (before after : List Status) (waiting : ℕ → Bool) (answer : Result Step Fault) : Type 0 where
  pub resolved : Resolved c states mask before after waiting (unresolved_in c after)
  pub agrees : Agrees c states after answer (react c states mask)
