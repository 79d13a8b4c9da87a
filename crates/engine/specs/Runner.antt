-- What the calls on a runner do. Assumes nothing.
use Rattle.std.specs.Prelude.{◌≡◌, ℕ, Bool, List, [], ◌∷◌, ◌++◌, length, take, drop, Ok, Err, Option, Result}
use Rattle.fixpoint.specs.Solver.{Solved}
use Rattle.chart.specs.Decoded.{Decoded, decode}
use Rattle.status.specs.Equations.{status_equations}
use Rattle.status.specs.declared.status.Status.{Status}
use Rattle.reaction.specs.declared.fault.Fault.{Fault}
use Rattle.engine.specs.Answer.{Held, Reply, accepted, outcome_of, refused}
use Rattle.engine.specs.Instant.{Passes}
use Rattle.engine.specs.Story.{Behind, Told}
use Rattle.engine.specs.declared.runner.Runner.{Runner}

-- what is held, by count and states
abbrev pub held : ℕ → List (Option ℕ) → Held
held count states = record { count = count; states = states }

-- the chart of a runner, decoded
abbrev pub rules : Runner → Decoded
rules r = decode r.chart.bytes.now

-- what a runner holds
abbrev pub holding : Runner → Held
holding r = held r.count r.configuration.states

-- two runners are on the same file
abbrev pub SameFile : (before after : Runner) → Type 0
SameFile before after = after.chart.bytes.now ≡ before.chart.bytes.now

-- a story is behind a runner
abbrev pub Tells : Runner → List Told → Type 0
Tells r story = Behind r.chart.bytes.now story (holding r)

-- with this call added, each story behind the runner before is behind it after
abbrev pub Adds : (before : Runner) → Told → (after : Runner) → Type 0
Adds before call after = (story : List Told) → Tells before story → Tells after (story ++ (call ∷ []))

-- a reply as the call gives it: a fault, with the line buffer unchanged; or the length of the line, with the line at the buffer's front and the rest
-- unchanged, and the statuses in the first n places of the area
abbrev pub Given : Reply → (old new : List ℕ) → ℕ → List Status → Result ℕ Fault → Type 0
Given (refused fault) old new n area answer = (answer ≡ Err fault) × (new ≡ old)
Given (accepted statuses line) old new n area answer = (answer ≡ Ok (length line)) × (new ≡ line ++ drop (length line) old) × (take n area ≡ statuses)

-- an instant on what is held: the area before and after, what then waits, that the worklist is unchanged, the line buffer before and after, the
-- answer, and what is held then
pub record Takes (c : Decoded) (h : Held) (mask : ℕ) (before after : List Status) (waiting : ℕ → Bool) (Unchanged : Type 0) (old new : List ℕ) (answer : Result ℕ Fault) (then : Held) : Type 0 where
  pub holds : then ≡ (outcome_of c h mask (length before) (length old)).after
  pub gives : Given (outcome_of c h mask (length before) (length old)).reply old new (length c.signals) after answer
  -- where the earlier checks are passed, area and worklist are as after solving; otherwise neither changes
  pub solved : Passes c h mask (length before) → Solved (status_equations c h.states mask) before after waiting
  pub unchanged : (Passes c h mask (length before) → ⊥) → (after ≡ before) × Unchanged
