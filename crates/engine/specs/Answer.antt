-- What an instant answers, and what is held after it. Assumes nothing.
use Rattle.std.specs.Prelude.{ℕ, ◌+◌, cond, not, ◌&&◌, List, length, Option, ◌==◌, nat_lt}
use Rattle.bits.specs.Bits.{bit}
use Rattle.bits.specs.Masks.{mask_of}
use Rattle.chart.specs.Decoded.{Decoded, input}
use Rattle.status.specs.declared.status.Status.{Status}
use Rattle.reaction.specs.Next.{padded, starting}
use Rattle.reaction.specs.React.{Reaction, undecided, decided, react}
use Rattle.reaction.specs.declared.fault.Fault.{Fault}
use Rattle.reaction.specs.declared.fault.Fault.TheVariants.{Instant, Solver}
use Rattle.reaction.specs.declared.fault.InstantFault.TheVariants.{NotInputs, CountReached, Unresolved, LongLine}
use Rattle.trace.specs.Line.{line_of}

-- what a runner holds: how many instants were accepted, and the configuration
pub record Held : Type 0 where
  pub count : ℕ
  pub states : List (Option ℕ)

-- at the start, and after a reset
abbrev pub at_start : Decoded → Held
at_start c = record { count = 0; states = padded (starting c) }

-- the answer of an instant: a fault, or the statuses of the signals and the bytes of the line
pub data Reply : Type 0 where
  refused : (fault : Fault) → Reply
  accepted : (statuses : List Status) (line : List ℕ) → Reply

-- an answer, and what is held after it
pub record Outcome : Type 0 where
  pub reply : Reply
  pub after : Held

-- the bits of a mask that are not inputs
unfoldable pub not_inputs : Decoded → ℕ → ℕ
not_inputs c mask = mask_of (λ s. bit mask s && not (input c s)) 64

-- how many places an instant needs
abbrev pub places_needed : Decoded → ℕ
places_needed c = length c.signals

-- a refused instant changes nothing
abbrev pub refuses : Held → Fault → Outcome
refuses h fault = record { reply = refused fault; after = h }

-- a line that fits is written, the count rises by one, and the next configuration is taken
abbrev pub writes : Held → (room : ℕ) → List Status → List ℕ → List (Option ℕ) → Outcome
writes h room statuses line after = cond (nat_lt room (length line))
    (refuses h (Instant (LongLine (length line))))
    (record { reply = accepted statuses line; after = record { count = h.count + 1; states = padded after } })

-- what a reaction leads to, with room for so many bytes
abbrev pub publishes : Decoded → Held → (room : ℕ) → Reaction → Outcome
publishes c h room (undecided signals) = refuses h (Instant (Unresolved signals))
publishes c h room (decided statuses values after) = writes h room statuses (line_of c (h.count + 1) statuses values after) after

-- an instant with a mask, so many places and room for so many bytes: the checks in their order, then the reaction
abbrev pub outcome_of : Decoded → Held → (mask places room : ℕ) → Outcome
outcome_of c h mask places room =
    cond (not (not_inputs c mask == 0)) (refuses h (Instant (NotInputs (not_inputs c mask))))
    (cond (h.count == 1000000) (refuses h (Instant CountReached))
    (cond (nat_lt places (places_needed c)) (refuses h (Solver (record { needed = places_needed c })))
    (publishes c h room (react c h.states mask))))
