-- Statuses of up to 64 signals in two words. Assumes nothing.
use Rattle.std.specs.Prelude.{ℕ}
use Rattle.bits.specs.Bits.{bit}
use Rattle.status.specs.Status.{status}
use Rattle.status.specs.declared.status.Status.{Status}
use Rattle.status.specs.declared.equations.Words.{Words}

-- the status of signal s
abbrev pub told : Words → ℕ → Status
told w s = status (bit w.present s) (bit w.absent s)
