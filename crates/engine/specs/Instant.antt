-- What is said of each instant of a story, in the words of its equations. Assumes nothing.
use Rattle.std.specs.Prelude.{◌≡◌, ℕ, ◌+◌, ◌<◌, ◌≤◌, true, ◌&&◌, List, [], ◌∷◌, length, nat_lt, slice_index_or}
use Rattle.bits.specs.Bits.{bit}
use Rattle.fixpoint.specs.System.{Equations, Assignment, BelowAll, Closed, Solution}
use Rattle.chart.specs.Decoded.{Decoded, input}
use Rattle.status.specs.Equations.{status_equations}
use Rattle.status.specs.Fired.{has_fired}
use Rattle.status.specs.Solved.{DecidedAll, is_unknown}
use Rattle.status.specs.Status.{unknown}
use Rattle.status.specs.declared.status.Status.{Status}
use Rattle.reaction.specs.Next.{next}
use Rattle.reaction.specs.Value.{values}
use Rattle.reaction.specs.declared.fault.Fault.TheVariants.{Instant}
use Rattle.reaction.specs.declared.fault.InstantFault.TheVariants.{Unresolved, LongLine}
use Rattle.trace.specs.Line.{line_of}
use Rattle.engine.specs.Answer.{Held, Reply, accepted, at_start, outcome_of, places_needed, refused}
use Rattle.engine.specs.Story.{Told, answered, was_reset}

-- a least solution: a place for each unknown, a solution, and below every closed assignment
pub record Least {E : Type 0} (s : Equations E) (xs : List E) : Type 0 where
  pub long : length xs ≡ s.count
  pub solution : Solution s xs
  pub lowest : (ys : List E) → Assignment s ys → Closed s ys → BelowAll s xs ys

-- there is one, and only one
pub record OneLeast {E : Type 0} (s : Equations E) : Type 0 where
  pub least : List E
  pub is : Least s least
  pub only : (xs : List E) → Least s xs → xs ≡ least

-- the earlier checks, said of the data: the mask has only inputs, the count is below a million, there are places enough
abbrev pub Passes : Decoded → Held → (mask places : ℕ) → Type 0
Passes c h mask places = ((s : ℕ) → bit mask s ≡ true → input c s ≡ true) × (h.count < 1000000) × (places_needed c ≤ places)

-- a signal is left unknown
abbrev pub SomeUnknown : Decoded → List Status → Type 0
SomeUnknown c xs = (s : ℕ) × (s < length c.signals) × (is_unknown (slice_index_or xs s unknown) ≡ true)

-- a mask names exactly the signals that are left unknown
abbrev pub Names : Decoded → List Status → ℕ → Type 0
Names c xs mask = (s : ℕ) → bit mask s ≡ (nat_lt s (length c.signals) && is_unknown (slice_index_or xs s unknown))

-- the line that tells of these statuses
abbrev pub line_for : Decoded → Held → List Status → List ℕ
line_for c h xs = line_of c (h.count + 1) xs (values c (has_fired c h.states xs) xs) (next c (has_fired c h.states xs) h.states)

-- an instant that passes the earlier checks, with this answer
pub record InstantLaw (c : Decoded) (h : Held) (mask room : ℕ) (reply : Reply) : Type 0 where
  -- its equations have one least solution
  pub one : OneLeast (status_equations c h.states mask)
  -- it is refused as unresolved exactly when the least solution leaves signals unknown, and names exactly those
  pub unresolved : (xs : List Status) → Least (status_equations c h.states mask) xs → SomeUnknown c xs → (m : ℕ) × (reply ≡ refused (Instant (Unresolved m))) × Names c xs m
  pub names : (xs : List Status) → Least (status_equations c h.states mask) xs → (m : ℕ) → reply ≡ refused (Instant (Unresolved m)) → SomeUnknown c xs × Names c xs m
  -- otherwise it is accepted exactly when its line fits the buffer
  pub fits : (xs : List Status) → Least (status_equations c h.states mask) xs → (SomeUnknown c xs → ⊥) → length (line_for c h xs) ≤ room → reply ≡ accepted xs (line_for c h xs)
  pub longer : (xs : List Status) → Least (status_equations c h.states mask) xs → (SomeUnknown c xs → ⊥) → room < length (line_for c h xs) → reply ≡ refused (Instant (LongLine (length (line_for c h xs))))
  -- the statuses of an accepted instant are the only solution that has each signal either present or absent
  pub solves : (xs : List Status) (line : List ℕ) → reply ≡ accepted xs line → (length xs ≡ length c.signals) × Solution (status_equations c h.states mask) xs × DecidedAll (length c.signals) xs
  pub only : (xs : List Status) (line : List ℕ) → reply ≡ accepted xs line → (ys : List Status) → length ys ≡ length c.signals → Solution (status_equations c h.states mask) ys → DecidedAll (length c.signals) ys → ys ≡ xs

-- each instant of a story, made from what is held, keeps its law if it passes the earlier checks
abbrev pub StoryLaws : Decoded → Held → List Told → Type 0
StoryLaws c from [] = Unit {0}
StoryLaws c from (was_reset ∷ later) = StoryLaws c (at_start c) later
StoryLaws c from (answered mask places room reply ∷ later) =
    (Passes c from mask places → InstantLaw c from mask room reply) × StoryLaws c (outcome_of c from mask places room).after later
