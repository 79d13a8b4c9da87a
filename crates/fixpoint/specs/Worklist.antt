-- Sets of waiting numbers, and what putting and taking do to them. Assumes nothing.
use Rattle.std.specs.Prelude.{◌≡◌, ℕ, zero, suc, ◌+◌, Bool, true, false, cond, not, ◌&&◌, ◌||◌, Option, MatchOption, ◌==◌, nat_lt}

-- a set with i too
abbrev pub with_number : ℕ → (ℕ → Bool) → ℕ → Bool
with_number i p j = p j || j == i

-- a set without i
abbrev pub without_number : ℕ → (ℕ → Bool) → ℕ → Bool
without_number i p j = p j && not (j == i)

-- how many numbers below n a set has
unfoldable pub tally : (ℕ → Bool) → ℕ → ℕ
tally p zero = 0
tally p (suc n) = cond (p n) (tally p n + 1) (tally p n)

-- the answer to putting i, and the worklist after it, for a worklist whose waiting set is `waiting`
pub record Put {W : Type 0} (waiting : W → ℕ → Bool) (before : W) (i : ℕ) (answer : Bool) (after : W) : Type 0 where
  pub answered : answer ≡ nat_lt i 128
  -- above 127 nothing at all changes
  pub refused : answer ≡ false → after ≡ before
  -- otherwise i waits too
  pub waits_too : answer ≡ true → (j : ℕ) → waiting after j ≡ with_number i (waiting before) j

-- the answer to taking, and the worklist after it
abbrev pub Taken : {W : Type 0} (waiting : W → ℕ → Bool) → W → Option ℕ → W → Type 0
Taken waiting before answer after = MatchOption answer
    (((j : ℕ) → waiting before j ≡ false) × (after ≡ before))
    (λ i. (waiting before i ≡ true) × ((j : ℕ) → waiting after j ≡ without_number i (waiting before) j))
