-- What is said of each instant holds all through a story. Assumes nothing.
use Rattle.std.proofs.Common.{ℕ, ◌≤◌, List, [], ◌∷◌, length}
use Rattle.chart.specs.Decoded.{Decoded, decode}
use Rattle.chart.specs.Layout.{Layout}
use Rattle.chart.proofs.Decoding.{few_signals}
use Rattle.engine.specs.Answer.{Held, at_start, outcome_of}
use Rattle.engine.specs.Instant.{StoryLaws}
use Rattle.engine.specs.Story.{Behind, Follows, Told, answered, was_reset}
use Rattle.engine.proofs.Answering.{instant_law}

-- each instant that the rules answer keeps its law
story_laws : (c : Decoded) → length c.signals ≤ 64 → (from : Held) (story : List Told) (to : Held) → Follows c from story to → StoryLaws c from story
story_laws c few from [] to told = tt
story_laws c few from (was_reset ∷ later) to told = story_laws c few (at_start c) later to told
story_laws c few from (answered mask places room reply ∷ later) to told = (
  λ passes. instant_law c from mask places room few passes reply told.0,
  story_laws c few (outcome_of c from mask places room).after later to told.1,
)

-- so in every story over a file that keeps the layout
pub story_law : (bytes : List ℕ) → ∥ Layout bytes ∥₁ → (story : List Told) (held : Held) → Behind bytes story held → StoryLaws (decode bytes) (at_start (decode bytes)) story
story_law bytes layout story held = story_laws (decode bytes) (few_signals bytes layout) (at_start (decode bytes)) story held
