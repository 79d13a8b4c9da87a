-- Latest first: up to eight numbers over another worklist. Assumes nothing.
use Rattle.std.specs.Prelude.{◌≡◌, ℕ, Bool, cond, ◌||◌, List, [], ◌∷◌, ◌++◌, length, drop, Some, None, MatchBool, Option, MatchOption, nat_lt, slice_index}
use Rattle.fixpoint.specs.Numbers.{has, without}
use Rattle.fixpoint.specs.Worklist.{with_number, Taken}

-- the numbers that are among the eight or wait below
abbrev pub union : List ℕ → (ℕ → Bool) → ℕ → Bool
union eight below i = has i eight || below i

-- the first answer, or else the second
abbrev pub or_else : Option ℕ → Option ℕ → Option ℕ
or_else None b = b
or_else (Some x) b = Some x

-- the last number of a list, oldest first, that is not in a set
abbrev pub newest_outside : (ℕ → Bool) → List ℕ → Option ℕ
newest_outside p [] = None
newest_outside p (x ∷ xs) = or_else (newest_outside p xs) (cond (p x) None (Some x))

-- the eight and the worklist below after a number that did not wait is put: it is the newest,
-- and a ninth number sends the oldest below
abbrev pub PutLatest : {W : Type 0} (waiting : W → ℕ → Bool) → List ℕ → W → ℕ → List ℕ → W → Type 0
PutLatest waiting eight below i eight' below' = MatchBool (nat_lt (length eight) 8)
    ((eight' ≡ eight ++ (i ∷ [])) × (below' ≡ below))
    ((eight' ≡ drop 1 eight ++ (i ∷ [])) × ((j : ℕ) → waiting below' j ≡ with_number (slice_index eight 0) (waiting below) j))

-- the answer to taking where no number of the eight is outside the worklist below: what that takes, which leaves the eight too
abbrev pub TakenBelow : {W : Type 0} (waiting : W → ℕ → Bool) → List ℕ → W → Option ℕ → List ℕ → W → Type 0
TakenBelow waiting eight below answer eight' below' =
    Taken waiting below answer below' × MatchOption answer (eight' ≡ eight) (λ i. eight' ≡ without i eight)

-- the answer to taking: the newest of the eight that does not wait below too, below then unchanged; or else from below
abbrev pub TakenLatest : {W : Type 0} (waiting : W → ℕ → Bool) → List ℕ → W → Option ℕ → List ℕ → W → Type 0
TakenLatest waiting eight below answer eight' below' = MatchOption (newest_outside (waiting below) eight)
    (TakenBelow waiting eight below answer eight' below')
    (λ i. (answer ≡ Some i) × (eight' ≡ without i eight) × (below' ≡ below))
