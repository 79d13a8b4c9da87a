-- The table is the list of rows, and each row is right. Assumes nothing.
use Rattle.std.proofs.Common.{refl}
use Rattle.engine.proofs.Working.{all_right}
use Rattle.engine.proofs.cases.worked_cases.Goals as goal

pub returns : goal.returns
returns c = record { table = refl; right = all_right }
