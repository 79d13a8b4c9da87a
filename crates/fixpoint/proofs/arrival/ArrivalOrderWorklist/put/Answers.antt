-- A number that did not wait goes behind the others: there is room in the ring, since fewer than 128 numbers wait.
use Rattle.std.proofs.Common.{◌≡◌, ℕ, ◌<◌, Bool, false, ◌&&◌, ◌||◌, eqb, ltb, length, sym, ap, ◌∙◌, arith, length-append}
use Rattle.std.proofs.lemmas.Bool.Decides.{nat_tests}
use Rattle.fixpoint.specs.Marks.{marked}
use Rattle.fixpoint.specs.Numbers.{has, distinct}
use Rattle.fixpoint.specs.Ring.{queue_of}
use Rattle.fixpoint.specs.Worklist.{with_number}
use Rattle.fixpoint.specs.declared.arrival.ArrivalOrder.{ArrivalOrder}
use Rattle.fixpoint.proofs.Queues.{has_push, distinct_push}
use Rattle.fixpoint.proofs.Tally.{tally_room, tally_with}
use Rattle.fixpoint.proofs.arrival.ArrivalOrderWorklist.put.Goals as goal

-- i, which does not wait, is put
module _ (w : ArrivalOrder) (i : ℕ) (small : i < 128) (free : false ≡ marked w.marks i) where
  -- it is not in the queue
  outside : has i (queue_of w.ring) ≡ false
  outside = sym (w.agree i) ∙ sym free

  -- there is room
  room : length (queue_of w.ring) < 128
  room = omega (arith, w.counted, tally_room (marked w.marks) i 128 small (sym free))

  -- the marks are those before and i
  marked_too : (q : ℕ → Bool) → ((j : ℕ) → q j ≡ (marked w.marks j || (eqb j i && ltb i 128))) → (j : ℕ) → q j ≡ with_number i (marked w.marks) j
  marked_too q more j = let e = more j in grind (arith, nat_tests)

pub push-requires : goal.push-requires
push-requires c = room c.args.self.now c.args.i (omega arith) c.if-not-has.ensures

pub invariant_of-self : goal.invariant_of-self
invariant_of-self c =
    let w = c.args.self.now in
    let i = c.args.i in
    let small : i < 128 = omega arith in
    let free = c.if-not-has.ensures in
    let e = c.push.ensures in
    let more = marked_too w i small free (marked c.with-self.result) c.with-self.ensures in
    record {
      agree = λ j. more j ∙ ap (λ b. b || eqb j i) (w.agree j) ∙ sym (has_push (queue_of w.ring) i j) ∙ sym (ap (has j) e);
      once = ap distinct e ∙ distinct_push (queue_of w.ring) i w.once (outside w i small free);
      counted = omega (arith, w.counted, simp length-append at (ap length e), tally_with (marked w.marks) (marked c.with-self.result) i 128 small (sym free) more);
    }
