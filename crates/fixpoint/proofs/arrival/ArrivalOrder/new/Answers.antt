-- Nothing stands in the ring, and nothing is marked.
use Rattle.std.proofs.Common.{length, sym, ap, ◌∙◌}
use Rattle.fixpoint.specs.Marks.{marked}
use Rattle.fixpoint.specs.Numbers.{has, distinct}
use Rattle.fixpoint.proofs.Tally.{tally_none}
use Rattle.fixpoint.proofs.arrival.ArrivalOrder.new.Goals as goal

pub invariant_of-result : goal.invariant_of-result
invariant_of-result c =
    let none = c.new.ensures in
    let free = c.new-2.ensures in
    record {
      agree = λ j. free j ∙ sym (ap (has j) none);
      once = ap distinct none;
      counted = ap length none ∙ sym (tally_none (marked c.new-2.result) 128 free);
    }
