-- Up to eight numbers, oldest first. Assumes nothing.
use Rattle.std.specs.Prelude.{◌≡◌, ℕ, List, [], ◌∷◌, ◌++◌, length, drop, Some, None, MatchBool, Option, nat_lt, slice_index}

-- the eight before and after i comes in as the newest: a ninth number drives out the oldest, which is the answer
abbrev pub Pushed : List ℕ → ℕ → Option ℕ → List ℕ → Type 0
Pushed eight i answer eight' = MatchBool (nat_lt (length eight) 8)
    ((answer ≡ None) × (eight' ≡ eight ++ (i ∷ [])))
    ((answer ≡ Some (slice_index eight 0)) × (eight' ≡ drop 1 eight ++ (i ∷ [])))
