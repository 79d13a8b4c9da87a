-- Which transitions fired. Assumes nothing.
use Rattle.std.specs.Prelude.{◌≡◌, ℕ, Bool, true, ◌&&◌, List, length, take, Option, nat_lt}
use Rattle.chart.specs.Decoded.{Decoded, transition}
use Rattle.status.specs.Equations.{assigned, firing, live}
use Rattle.status.specs.Solved.{DecidedAll}
use Rattle.status.specs.declared.status.Status.{Status}

-- transition k is live, and its firing is present
abbrev pub fires : Decoded → List (Option ℕ) → (ℕ → Status) → ℕ → Bool
fires c states u k = live states (transition c k) && (firing states u (take k c.transitions) (transition c k)).present

-- transition k fired under the statuses xs
abbrev pub has_fired : Decoded → List (Option ℕ) → List Status → ℕ → Bool
has_fired c states xs k = nat_lt k (length c.transitions) && fires c states (assigned (length c.signals) xs) k

-- a set of transitions that fired under the statuses xs
pub record FiredUnder (c : Decoded) (states : List (Option ℕ)) (xs : List Status) (set : ℕ → Bool) : Type 0 where
  pub is : (k : ℕ) → set k ≡ has_fired c states xs k
  -- where each signal is either present or absent, at most one transition of an automaton fired
  pub one : DecidedAll (length c.signals) xs → (i j : ℕ) → set i ≡ true → set j ≡ true → (transition c i).automaton ≡ (transition c j).automaton → i ≡ j
