-- The whole promise: what holds of every file, every story and every runner. Assumes nothing.
use Rattle.std.specs.Prelude.{◌≡◌, ℕ, List, map}
use Rattle.chart.specs.Decoded.{decode}
use Rattle.chart.specs.Layout.{Layout}
use Rattle.analysis.specs.Reach.{reach_equations}
use Rattle.bits.specs.declared.set.NumberSet.{NumberSet as StateSet}
use Rattle.engine.specs.Answer.{Held, at_start}
use Rattle.engine.specs.Instant.{Least, OneLeast, StoryLaws}
use Rattle.engine.specs.Reached.{StatesReached, StoryPossible}
use Rattle.engine.specs.Story.{Behind, Call, OneStory, Told, call_of}

-- what is said of a file that keeps the layout
pub record FileLaw (bytes : List ℕ) : Type 0 where
  -- every list of calls has exactly one list of answers that makes it a story
  pub one : (calls : List Call) → OneStory bytes calls
  -- two stories with the same calls have the same answers, to the byte, and end alike
  pub alike : (story other : List Told) (held end : Held) → Behind bytes story held → Behind bytes other end → map call_of story ≡ map call_of other → (story ≡ other) × (held ≡ end)
  -- each instant of each story that passes the earlier checks keeps its law
  pub instants : (story : List Told) (held : Held) → Behind bytes story held → StoryLaws (decode bytes) (at_start (decode bytes)) story
  -- the reach equations have one least solution
  pub sets : OneLeast (reach_equations (decode bytes))
  -- in it lie each state held at the end of a story and each signal present in an accepted instant of it
  pub reached : (reach : List StateSet) → Least (reach_equations (decode bytes)) reach → (story : List Told) (held : Held) → Behind bytes story held
      → StatesReached (decode bytes) reach held.states × StoryPossible (decode bytes) reach story

-- and so of every such file
abbrev pub Theorem : Type 0
Theorem = (bytes : List ℕ) → Layout bytes → FileLaw bytes
