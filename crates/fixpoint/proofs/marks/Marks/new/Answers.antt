-- Two words that are zero mark nothing.
use Rattle.std.proofs.Common.{refl}
use Rattle.fixpoint.proofs.Marking.{marked_none}
use Rattle.fixpoint.proofs.marks.Marks.new.Goals as goal

pub returns : goal.returns
returns c = marked_none (record { low = 0; high = 0 }) refl refl
