-- Which state each automaton holds. Assumes nothing.
use Rattle.std.specs.Prelude.{ℕ, Bool, false, List, Some, None, Option, ◌==◌, slice_index_or}

-- whether that state is held
abbrev pub is_state : Option ℕ → ℕ → Bool
is_state None s = false
is_state (Some x) s = x == s

-- whether automaton k holds state s; a configuration has a state or none for each automaton
abbrev pub holds : List (Option ℕ) → ℕ → ℕ → Bool
holds states k s = is_state (slice_index_or states k None) s
