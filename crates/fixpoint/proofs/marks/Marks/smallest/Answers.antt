use Rattle.fixpoint.proofs.Marking.{smallest_low, smallest_high}
use Rattle.fixpoint.proofs.marks.Marks.smallest.Goals as goal

pub returns-in-Some : goal.returns-in-Some
returns-in-Some c = let low = c.in-Some.ensures in smallest_low c.args.self c.in-Some.i low.0 low.1 low.2

pub returns : goal.returns
returns c = let high = c.in_ok-lowest_bit.ensures in smallest_high c.args.self c.in_ok-lowest_bit.field-0 c.in_default.ensures high.0 high.1 high.2
