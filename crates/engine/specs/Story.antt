-- Stories: the calls on a runner with their answers. Assumes nothing.
use Rattle.std.specs.Prelude.{◌≡◌, ℕ, List, [], ◌∷◌, map}
use Rattle.chart.specs.Decoded.{Decoded, decode}
use Rattle.engine.specs.Answer.{Held, Reply, at_start, outcome_of}

-- a call on a runner: a reset, or an instant with a mask, a number of places and room for so many bytes
pub data Call : Type 0 where
  reset : Call
  instant : (mask places room : ℕ) → Call

-- a call with its answer; a reset has none
pub data Told : Type 0 where
  was_reset : Told
  answered : (mask places room : ℕ) (reply : Reply) → Told

-- the calls of a story without their answers
abbrev pub call_of : Told → Call
call_of was_reset = reset
call_of (answered mask places room reply) = instant mask places room

-- the calls, made from what is held, are answered by the rules, and end at what is held then
abbrev pub Follows : Decoded → Held → List Told → Held → Type 0
Follows c from [] to = from ≡ to
Follows c from (was_reset ∷ later) to = Follows c (at_start c) later to
Follows c from (answered mask places room reply ∷ later) to = (reply ≡ (outcome_of c from mask places room).reply) × Follows c (outcome_of c from mask places room).after later to

-- a story over a file that ends at what is held: it begins with the start
abbrev pub Behind : List ℕ → List Told → Held → Type 0
Behind bytes story held = Follows (decode bytes) (at_start (decode bytes)) story held

-- the story that these calls make, from what is held on
abbrev pub story_of : Decoded → Held → List Call → List Told
story_of c from [] = []
story_of c from (reset ∷ later) = was_reset ∷ story_of c (at_start c) later
story_of c from (instant mask places room ∷ later) = answered mask places room (outcome_of c from mask places room).reply ∷ story_of c (outcome_of c from mask places room).after later

-- what is held after these calls
abbrev pub held_after : Decoded → Held → List Call → Held
held_after c from [] = from
held_after c from (reset ∷ later) = held_after c (at_start c) later
held_after c from (instant mask places room ∷ later) = held_after c (outcome_of c from mask places room).after later

-- every list of calls has exactly one list of answers that makes it a story over a file, and what is held at its end is settled too
pub record OneStory (bytes : List ℕ) (calls : List Call) : Type 0 where
  pub story : List Told
  pub held : Held
  pub calls_are : map call_of story ≡ calls
  pub behind : Behind bytes story held
  pub only : (other : List Told) (end : Held) → map call_of other ≡ calls → Behind bytes other end → (other ≡ story) × (end ≡ held)
