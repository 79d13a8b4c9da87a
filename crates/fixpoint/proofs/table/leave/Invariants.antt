use Rattle.std.proofs.Common.{◌≡◌, ◌≤◌, length, take}
use Rattle.fixpoint.specs.Numbers.{without}
use Rattle.fixpoint.proofs.table.leave.Given as goal

-- what was read so far, but i
abbrev pub invariant-loop-x : goal.invariant-loop-x
invariant-loop-x l = (l.kept.items ≡ without l.i (take l.x-index l.x-items)) × (length l.kept.items ≤ l.x-index)
