-- What can occur lies in the reachable sets. Assumes nothing.
use Rattle.std.specs.Prelude.{◌≡◌, ℕ, true, List, [], ◌∷◌, Option}
use Rattle.chart.specs.Decoded.{Decoded}
use Rattle.status.specs.Configuration.{holds}
use Rattle.status.specs.declared.status.Status.{Status}
use Rattle.reaction.specs.Value.{present}
use Rattle.analysis.specs.Reach.{possible_in, reached_in}
use Rattle.bits.specs.declared.set.NumberSet.{NumberSet as StateSet}
use Rattle.engine.specs.Answer.{Reply, accepted, refused}
use Rattle.engine.specs.Story.{Told, answered, was_reset}

-- each state that is held lies in the sets
abbrev pub StatesReached : Decoded → List StateSet → List (Option ℕ) → Type 0
StatesReached c sets states = (k s : ℕ) → holds states k s ≡ true → reached_in c sets k s ≡ true

-- each signal that is present lies in the sets
abbrev pub SignalsPossible : Decoded → List StateSet → List Status → Type 0
SignalsPossible c sets statuses = (s : ℕ) → present statuses s ≡ true → possible_in c sets s ≡ true

-- and so it is for an answer, if it is an acceptance
abbrev pub ReplyPossible : Decoded → List StateSet → Reply → Type 0
ReplyPossible c sets (refused fault) = Unit {0}
ReplyPossible c sets (accepted statuses line) = SignalsPossible c sets statuses

-- each signal that is present in an accepted instant of the story lies in the sets
abbrev pub StoryPossible : Decoded → List StateSet → List Told → Type 0
StoryPossible c sets [] = Unit {0}
StoryPossible c sets (was_reset ∷ later) = StoryPossible c sets later
StoryPossible c sets (answered mask places room reply ∷ later) = ReplyPossible c sets reply × StoryPossible c sets later
