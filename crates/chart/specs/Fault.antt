-- Layer, number and detail of a fault of a chart file. Assumes nothing.
use Rattle.std.specs.Prelude.{ℕ, List, ◌∷◌, ◌++◌, codes, decimal}
use Rattle.chart.specs.declared.fault.ChartFault.{ChartFault}
use Rattle.chart.specs.declared.fault.ChartFault.TheVariants.{EndsEarly, CountOutOfRange, BrokenSignal, BrokenAutomaton, BrokenTransition, BytesRemain}

-- the layer of each is `chart`
abbrev pub layer_of : ChartFault → List ℕ
layer_of f = codes "chart"

abbrev pub number_of : ChartFault → ℕ
number_of (EndsEarly n) = 1
number_of (CountOutOfRange p) = 2
number_of (BrokenSignal p) = 3
number_of (BrokenAutomaton p) = 4
number_of (BrokenTransition p) = 5
number_of (BytesRemain p) = 6

-- the length of the file, the place of the count, of the record, of the first byte that remains
abbrev pub detail_of : ChartFault → ℕ
detail_of (EndsEarly n) = n
detail_of (CountOutOfRange p) = p
detail_of (BrokenSignal p) = p
detail_of (BrokenAutomaton p) = p
detail_of (BrokenTransition p) = p
detail_of (BytesRemain p) = p

-- number, space, detail
abbrev pub text_of : ChartFault → List ℕ
text_of f = decimal (number_of f) ++ (32 ∷ decimal (detail_of f))
