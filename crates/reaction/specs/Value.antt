-- The value of a signal. Assumes nothing.
use Rattle.std.specs.Prelude.{ℕ, Bool, cond, ◌&&◌, List, map, length, Some, None, filter, Option, slice_index_or}
use Rattle.std.specs.List.{range_with_len, slice_get}
use Rattle.bits.specs.Bits.{bit}
use Rattle.chart.specs.Decoded.{Decoded, transition}
use Rattle.chart.specs.declared.signal.Combining.{Combining}
use Rattle.chart.specs.declared.signal.Combining.TheVariants.{Plain, Sum, Largest}
use Rattle.chart.specs.declared.signal.Signal.{Signal}
use Rattle.status.specs.Status.{unknown}
use Rattle.status.specs.declared.status.Status.{Status}
use Rattle.reaction.specs.Combine.{combined}
use Rattle.reaction.specs.Kinds.{sum, largest}

-- the transitions with these numbers that are in a set and pass a test, in file order
abbrev pub chosen : (ℕ → Bool) → (ℕ → Bool) → ℕ → List ℕ
chosen fired test n = filter (λ k. fired k && test k) (range_with_len 0 n)

-- the amounts of the fired transitions that emit signal s, in file order
abbrev pub amounts_of : Decoded → (ℕ → Bool) → ℕ → List ℕ
amounts_of c fired s = map (λ k. (transition c k).amount) (chosen fired (λ k. bit (transition c k).emitted s) (length c.transitions))

-- amounts by the combining of a signal, if it has any
abbrev pub combined_by : Combining → List ℕ → Option ℕ
combined_by Plain amounts = None
combined_by Sum amounts = Some (combined sum amounts).value
combined_by Largest amounts = Some (combined largest amounts)

abbrev pub signal_value : Option Signal → List ℕ → Option ℕ
signal_value None amounts = None
signal_value (Some g) amounts = combined_by g.combining amounts

-- whether signal s is shown present
abbrev pub present : List Status → ℕ → Bool
present statuses s = (slice_index_or statuses s unknown).present

-- a present signal with combining has the fold of the amounts of the fired transitions that emit it; any other has none
abbrev pub value_of : Decoded → (ℕ → Bool) → List Status → ℕ → Option ℕ
value_of c fired statuses s = cond (present statuses s) (signal_value (slice_get c.signals s) (amounts_of c fired s)) None

-- the value of each signal
abbrev pub values : Decoded → (ℕ → Bool) → List Status → List (Option ℕ)
values c fired statuses = map (value_of c fired statuses) (range_with_len 0 (length c.signals))
