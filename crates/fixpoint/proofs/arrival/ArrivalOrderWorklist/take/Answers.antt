-- The front of the queue leaves; since no number stands twice, it waits no more.
use Rattle.std.proofs.Common.{◌≡◌, ℕ, true, not, ◌&&◌, eqb, List, ◌∷◌, length, Some, sym, refl, ap, ◌∙◌, arith}
use Rattle.std.proofs.lemmas.Bool.{and_parts, eq-eqb, or_left}
use Rattle.fixpoint.specs.Marks.{marked}
use Rattle.fixpoint.specs.Numbers.{has, distinct}
use Rattle.fixpoint.specs.Ring.{queue_of}
use Rattle.fixpoint.specs.Worklist.{without_number}
use Rattle.fixpoint.specs.declared.arrival.ArrivalOrder.{ArrivalOrder}
use Rattle.fixpoint.proofs.Marking.{marked_few}
use Rattle.fixpoint.proofs.Queues.{front_first, has_rest}
use Rattle.fixpoint.proofs.Tally.{tally_without}
use Rattle.fixpoint.proofs.arrival.ArrivalOrderWorklist.take.Goals as goal

-- x is taken, and ys are left
module _ (w : ArrivalOrder) (x : ℕ) (ys : List ℕ) (e : queue_of w.ring ≡ x ∷ ys) where
  -- no number stands twice
  once_all : distinct (x ∷ ys) ≡ true
  once_all = sym (ap distinct e) ∙ w.once

  -- x waits
  waits : has x (queue_of w.ring) ≡ true
  waits = ap (has x) e ∙ or_left (eqb x x) (has x ys) (eq-eqb x x refl)

  -- the others are all but x
  no_more : (j : ℕ) → has j ys ≡ without_number x (λ k. has k (queue_of w.ring)) j
  no_more j = has_rest x ys once_all j ∙ ap (λ b. b && not (eqb j x)) (sym (ap (has j) e))

pub invariant_of-self-2 : goal.invariant_of-self-2
invariant_of-self-2 c =
    let w = c.args.self.now in
    let x = c.from-i.result in
    let ys = queue_of c.pop.new.self in
    let oldest = ap Some c.from-i.ensures ∙ c.in_ok-pop.ensures.oldest in
    let e = front_first (queue_of w.ring) ys x oldest c.pop.ensures.rest in
    let mark : marked w.marks x ≡ true = w.agree x ∙ waits w x ys e in
    record {
      agree = λ j. c.without-self.ensures j ∙ ap (λ b. b && not (eqb j x)) (w.agree j) ∙ sym (no_more w x ys e j);
      once = (and_parts (not (has x ys)) (distinct ys) (once_all w x ys e)).1;
      counted = omega (arith, w.counted, ap length e, tally_without (marked w.marks) (marked c.without-self.result) x 128 (marked_few w.marks x mark) mark c.without-self.ensures);
    }
