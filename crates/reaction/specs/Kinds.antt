-- The combining kinds of a chart. Assumes nothing.
use Rattle.std.specs.Prelude.{ℕ, ◌+◌, min, max}
use Rattle.std.proofs.Common.{arith}
use Rattle.reaction.specs.Combine.{Combination}
use Rattle.reaction.specs.declared.total.Total.{Total}

-- the total with this value; it stops at 4,294,967,295
abbrev pub total : ℕ → Total
total n = record { value = min n 4294967295; fits = omega arith }

-- a sum stops at 4,294,967,295, and its neutral value is 0
abbrev pub sum : Combination Total
sum = record { neutral = total 0; step = total; together = λ a b. total (a.value + b.value) }

-- largest keeps the larger, and its neutral value is 0
abbrev pub largest : Combination ℕ
largest = record { neutral = 0; step = λ amount. amount; together = max }
