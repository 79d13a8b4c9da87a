-- What publishing does: a table solved, the reachable sets solved, the runner's next call made. Assumes nothing.
use Rattle.std.specs.Prelude.{◌≡◌, ℕ, ◌<◌, ◌≤◌, Bool, false, ◌⊎◌, List, length, None, Ok, Err, Option, Result, MatchOption}
use Rattle.fixpoint.specs.Solver.{Solved}
use Rattle.fixpoint.specs.System.{Equations}
use Rattle.fixpoint.specs.declared.solver.ShortArea.{ShortArea}
use Rattle.chart.specs.Decoded.{Decoded}
use Rattle.status.specs.declared.status.Status.{Status}
use Rattle.reaction.specs.declared.fault.Fault.{Fault}
use Rattle.engine.specs.Answer.{Held, at_start, outcome_of}
use Rattle.engine.specs.Instant.{Passes}
use Rattle.engine.specs.Runner.{Takes}
use Rattle.engine.specs.Story.{Told, answered, was_reset}
use Rattle.engine.specs.declared.publish.NextCall.{NextCall}
use Rattle.engine.specs.declared.publish.NextCall.TheVariants.{Reset, Instant}

-- a system solved in an area, or refused for want of places with the area unchanged; the worklist aside
abbrev pub Solves : {E : Type 0} → Equations E → (before after : List E) → Result (Unit {0}) ShortArea → Type 0
Solves s before after answer =
    (length before < s.count → (answer ≡ Err (record { needed = s.count })) × (after ≡ before))
    × (s.count ≤ length before → (answer ≡ Ok tt) × Solved s before after (λ _. false))

-- the next call made on what is held: a reset answers nothing and leaves area and line as they are; an instant is taken; the worklist aside
abbrev pub Makes : Decoded → Held → NextCall → (before after : List Status) (old new : List ℕ) → Option (Result ℕ Fault) → Held → Type 0
Makes c h Reset before after old new answer then = (answer ≡ None) × (then ≡ at_start c) × (after ≡ before) × (new ≡ old)
Makes c h (Instant mask) before after old new answer then = MatchOption answer ⊥ (λ r. Takes c h mask before after (λ _. false) (Unit {0}) old new r then)

-- the next call with its answer, as a story tells it
abbrev pub told_call : Decoded → Held → NextCall → (places room : ℕ) → Told
told_call c h Reset places room = was_reset
told_call c h (Instant mask) places room = answered mask places room (outcome_of c h mask places room).reply

-- whether the next call solves its equations: an instant that passes the earlier checks
abbrev pub Solving : Decoded → Held → NextCall → (places : ℕ) → Type 0
Solving c h Reset places = ⊥
Solving c h (Instant mask) places = Passes c h mask places

-- a worklist after calls: some of them solve, and nothing waits; or none does, and it is unchanged
abbrev pub Worked : Type 0 → (ℕ → Bool) → Type 0 → Type 0
Worked Some waiting Unchanged = (Some × ((i : ℕ) → waiting i ≡ false)) ⊎ ((Some → ⊥) × Unchanged)
