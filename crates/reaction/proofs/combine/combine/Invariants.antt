use Rattle.std.proofs.Common.{◌≡◌, take}
use Rattle.reaction.specs.Combine.{combined}
use Rattle.reaction.proofs.combine.combine.Given as goal

abbrev pub invariant-loop-amount : goal.invariant-loop-amount
invariant-loop-amount g l = l.value ≡ combined (g.K.Combining.combination l.kind) (take l.«amount-index» l.amounts)
