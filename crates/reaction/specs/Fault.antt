-- Layer, number and detail of every fault, and what is printed of one. Assumes nothing.
use Rattle.std.specs.Prelude.{ℕ, List, ◌∷◌, ◌++◌, codes, decimal}
use Rattle.chart.specs.Fault as chart
use Rattle.reaction.specs.declared.fault.Fault.{Fault}
use Rattle.reaction.specs.declared.fault.Fault.TheVariants.{Chart, Instant, Solver}
use Rattle.reaction.specs.declared.fault.InstantFault.{InstantFault}
use Rattle.reaction.specs.declared.fault.InstantFault.TheVariants.{NotInputs, CountReached, Unresolved, LongLine}

-- the number of a fault of an instant
abbrev pub instant_number : InstantFault → ℕ
instant_number (NotInputs bits) = 7
instant_number CountReached = 8
instant_number (Unresolved signals) = 10
instant_number (LongLine n) = 11

-- its detail: the bits that are not inputs, the count, the mask of the unresolved signals, the length of the line
abbrev pub instant_detail : InstantFault → ℕ
instant_detail (NotInputs bits) = bits
instant_detail CountReached = 1000000
instant_detail (Unresolved signals) = signals
instant_detail (LongLine n) = n

-- the layer that refuses
abbrev pub layer_of : Fault → List ℕ
layer_of (Chart f) = chart.layer_of f
layer_of (Instant f) = codes "instant"
layer_of (Solver short) = codes "solver"

abbrev pub number_of : Fault → ℕ
number_of (Chart f) = chart.number_of f
number_of (Instant f) = instant_number f
number_of (Solver short) = 9

-- of the solver: how many places are needed
abbrev pub detail_of : Fault → ℕ
detail_of (Chart f) = chart.detail_of f
detail_of (Instant f) = instant_detail f
detail_of (Solver short) = short.needed

-- number, space, detail
abbrev pub text_of : Fault → List ℕ
text_of f = decimal (number_of f) ++ (32 ∷ decimal (detail_of f))
