use Rattle.std.proofs.Common.{◌≡◌, ℕ, ◌≤◌, ◌&&◌, map, length, filter}
use Rattle.bits.specs.Bits.{bit}
use Rattle.chart.specs.declared.transition.Transition.{Transition}
use Rattle.fixpoint.specs.Marks.{marked}
use Rattle.reaction.proofs.value.amounts_of.Given as goal

-- the amounts so far
abbrev pub invariant-loop-k : goal.invariant-loop-k
invariant-loop-k l =
    (l.amounts.items ≡ map (λ (p : ℕ × Transition). p.1.amount) (filter (λ p. marked l.fired.set p.0 && bit p.1.emitted l.s) l.yielded))
    × (length l.amounts.items ≤ length l.yielded)
