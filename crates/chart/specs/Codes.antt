-- The bytes that stand for kinds and combinings. Assumes nothing.
use Rattle.std.specs.Prelude.{ℕ, cond, ◌==◌}
use Rattle.chart.specs.declared.signal.Kind.{Kind}
use Rattle.chart.specs.declared.signal.Kind.TheVariants.{Input, Output, Local}
use Rattle.chart.specs.declared.signal.Combining.{Combining}
use Rattle.chart.specs.declared.signal.Combining.TheVariants.{Plain, Sum, Largest}

abbrev pub kind_byte : Kind → ℕ
kind_byte Input = 0
kind_byte Output = 1
kind_byte Local = 2

abbrev pub combining_byte : Combining → ℕ
combining_byte Plain = 0
combining_byte Sum = 1
combining_byte Largest = 2

-- the kind for a byte; the layout leaves no byte above 2
abbrev pub kind_of : ℕ → Kind
kind_of b = cond (b == 0) Input (cond (b == 1) Output Local)

abbrev pub combining_of : ℕ → Combining
combining_of b = cond (b == 0) Plain (cond (b == 1) Sum Largest)
