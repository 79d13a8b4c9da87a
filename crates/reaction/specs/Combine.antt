-- Combining kinds, and the fold of a list of amounts. Assumes nothing.
use Rattle.std.specs.Prelude.{◌≡◌, ℕ, List, fold}

-- a combining kind over values V
pub record Combination (V : Type 0) : Type 0 where
  -- the value of no amount at all
  pub neutral : V
  -- the value of one amount
  pub step : ℕ → V
  -- the value of two together
  pub together : V → V → V

-- the laws that each kind shows
pub record Lawful {V : Type 0} (k : Combination V) : Type 0 where
  pub associative : (a b c : V) → k.together (k.together a b) c ≡ k.together a (k.together b c)
  pub commutative : (a b : V) → k.together a b ≡ k.together b a
  pub neutral_left : (a : V) → k.together k.neutral a ≡ a

-- the value of a list of amounts: each is taken together with those before it, from the neutral value on
abbrev pub combined : {V : Type 0} → Combination V → List ℕ → V
combined k amounts = fold (λ value amount. k.together value (k.step amount)) k.neutral amounts
