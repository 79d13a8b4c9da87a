-- What solving leaves. Assumes nothing.
use Rattle.std.specs.Prelude.{◌≡◌, ℕ, Bool, false, ◌&&◌, ◌||◌, ◌⊎◌, List, take, drop, ◌≢◌, nat_lt, slice_set}
use Rattle.fixpoint.specs.System.{Equations, Assignment, BelowAll, Closed, Solution, least, place}

-- the area before and after solving, and what then waits
pub record Solved {E : Type 0} (s : Equations E) (before after : List E) (waiting : ℕ → Bool) : Type 0 where
  -- the first places hold the least solution
  pub holds_least : take s.count after ≡ least s
  -- that is a solution
  pub solution : Solution s after
  -- and lies below every closed assignment
  pub lowest : (xs : List E) → Assignment s xs → Closed s xs → BelowAll s after xs
  -- the other places are untouched
  pub untouched : drop s.count after ≡ drop s.count before
  -- nothing waits
  pub idle : (i : ℕ) → waiting i ≡ false

-- the readers of unknown i
abbrev pub readers : {E : Type 0} → Equations E → ℕ → ℕ → Bool
readers s i j = nat_lt j s.count && s.reads j i

-- what place i holds, joined with what its equation gives
abbrev pub raised : {E : Type 0} → Equations E → List E → ℕ → E
raised s xs i = s.join (place s xs i) (s.evaluate i xs)

-- one place raised: where that changes it, its readers wait too
abbrev pub Raised : {E : Type 0} → Equations E → ℕ → List E → (ℕ → Bool) → List E → (ℕ → Bool) → Type 0
Raised s i before waiting after waiting' =
    ((raised s before i ≡ place s before i) × (after ≡ before) × ((j : ℕ) → waiting' j ≡ waiting j))
    ⊎ ((raised s before i ≢ place s before i) × (after ≡ slice_set before i (raised s before i)) × ((j : ℕ) → waiting' j ≡ (waiting j || readers s i j)))
