-- What solving an instant's equations tells. Assumes nothing.
use Rattle.std.specs.Prelude.{◌≡◌, ℕ, ◌<◌, Bool, true, false, not, ◌&&◌, ◌⊎◌, List, length, get_or, Option, ◌≢◌, nat_lt, slice_index_or}
use Rattle.bits.specs.Bits.{bit}
use Rattle.fixpoint.specs.Solver.{Solved}
use Rattle.fixpoint.specs.System.{Assignment, Solution}
use Rattle.chart.specs.Decoded.{Decoded}
use Rattle.status.specs.Equations.{status_equations}
use Rattle.status.specs.Status.{status, unknown}
use Rattle.status.specs.declared.status.Status.{Status}

-- neither mark is there
abbrev pub is_unknown : Status → Bool
is_unknown a = not a.present && not a.absent

-- either present or absent
abbrev pub Decided : Status → Type 0
Decided a = (a ≡ status true false) ⊎ (a ≡ status false true)

-- each signal is either present or absent
abbrev pub DecidedAll : ℕ → List Status → Type 0
DecidedAll n xs = (k : ℕ) → k < n → Decided (slice_index_or xs k unknown)

-- the area before and after, what then waits, and the mask of the unresolved signals
pub record Resolved (c : Decoded) (states : List (Option ℕ)) (mask : ℕ) (before after : List Status) (waiting : ℕ → Bool) (unresolved : ℕ) : Type 0 where
  -- the area holds the least solution
  pub solved : Solved (status_equations c states mask) before after waiting
  -- which has no clash
  pub clashless : (k : ℕ) → k < length c.signals → (get_or after k unknown).present ≡ true → (get_or after k unknown).absent ≢ true
  -- bit s is set exactly when s is a signal and unknown in it
  pub named : (s : ℕ) → bit unresolved s ≡ (nat_lt s (length c.signals) && is_unknown (slice_index_or after s unknown))
  -- where no signal is unresolved, each is decided, and no other solution decides each
  pub decided : unresolved ≡ 0 → DecidedAll (length c.signals) after
  pub only : unresolved ≡ 0 → (xs : List Status) → Assignment (status_equations c states mask) xs → Solution (status_equations c states mask) xs
      → DecidedAll (length c.signals) xs → (k : ℕ) → k < length c.signals → slice_index_or xs k unknown ≡ slice_index_or after k unknown
