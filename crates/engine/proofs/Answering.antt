-- What is said of an instant holds of the answer that the rules give. Assumes nothing.
use Rattle.std.proofs.Common.{◌≡◌, ℕ, ◌≤◌, false, eqb, ltb, ◌⊎◌, List, length, get_or, Option, sym, refl, ap, ◌∙◌, subst, ⊎_elim, arith}
use Rattle.std.proofs.lemmas.List.{ext_get_or, take_all}
use Rattle.std.proofs.lemmas.Bool.{and_from, both_ways, cond_both, cond-false, cond-true, eq-eqb, le-ltb, lt-ltb, ne_eqb}
use Rattle.bits.specs.Bits.{bit}
use Rattle.bits.proofs.Digits.{bit_zero}
use Rattle.bits.proofs.Masks.{bit_mask, mask_cases}
use Rattle.fixpoint.specs.Solver.{Solved}
use Rattle.chart.specs.Decoded.{Decoded}
use Rattle.status.specs.Equations.{status_equations}
use Rattle.status.specs.Fired.{has_fired}
use Rattle.status.specs.Solved.{Resolved, is_unknown}
use Rattle.status.specs.Status.{unknown}
use Rattle.status.specs.declared.status.Status.{Status}
use Rattle.status.proofs.Resolving.{resolved}
use Rattle.reaction.specs.Next.{next}
use Rattle.reaction.specs.React.{reaction, unresolved_in}
use Rattle.reaction.specs.declared.fault.Fault.TheVariants.{Instant}
use Rattle.reaction.specs.declared.fault.InstantFault.TheVariants.{Unresolved}
use Rattle.engine.specs.Answer.{Held, Outcome, Reply, accepted, outcome_of, publishes, refused, writes}
use Rattle.engine.specs.Instant.{InstantLaw, Least, Names, Passes, SomeUnknown, line_for}
use Rattle.engine.proofs.Outcomes.{passed}
use Rattle.engine.proofs.Unique.{one_status, status_only}

-- the configuration that these statuses lead to
abbrev next_for : Decoded → Held → List Status → List (Option ℕ)
next_for c h xs = next c (has_fired c h.states xs) h.states

-- the mask of the unknown signals names exactly those
unresolved_names : (c : Decoded) (xs : List Status) → Names c xs (unresolved_in c xs)
unresolved_names c xs = bit_mask (λ s. is_unknown (get_or xs s unknown)) (length c.signals)

-- no signal is unknown, or one is
unknown_cases : (c : Decoded) (xs : List Status) → (unresolved_in c xs ≡ 0) ⊎ SomeUnknown c xs
unknown_cases c xs = mask_cases (λ s. is_unknown (get_or xs s unknown)) (length c.signals)

-- where one is, its bit is set
some_named : (c : Decoded) (xs : List Status) → SomeUnknown c xs → unresolved_in c xs ≡ 0 → ⊥
some_named c xs some none =
    let s = some.0 in
    both_ways (bit (unresolved_in c xs) s) (ap (λ m. bit m s) none ∙ bit_zero s)
    (unresolved_names c xs s ∙ and_from (ltb s (length c.signals)) (is_unknown (get_or xs s unknown)) (lt-ltb s (length c.signals) some.1) some.2)

-- writing a line is never refused as unresolved
never_unresolved : (h : Held) (room : ℕ) (xs : List Status) (line : List ℕ) (after : List (Option ℕ)) (m : ℕ) → (writes h room xs line after).reply ≡ refused (Instant (Unresolved m)) → ⊥
never_unresolved h room xs line after m = cond_both (ltb room (length line)) _ _ (λ (o : Outcome). o.reply ≡ refused (Instant (Unresolved m)) → ⊥)
    (λ t e. let z : ◌≡◌ {A = ℕ} 0 1 = cc in omega arith)
    (λ t e. let z : ◌≡◌ {A = ℕ} 0 1 = cc in omega arith)

-- the statuses that are accepted with a line are those that it tells of
same_statuses : (h : Held) (room : ℕ) (xs : List Status) (line : List ℕ) (after : List (Option ℕ)) (ys : List Status) (text : List ℕ) → (writes h room xs line after).reply ≡ accepted ys text → xs ≡ ys
same_statuses h room xs line after ys text = cond_both (ltb room (length line)) _ _ (λ (o : Outcome). o.reply ≡ accepted ys text → xs ≡ ys)
    (λ t e. let z : ◌≡◌ {A = ℕ} 0 1 = cc in absurd (omega arith))
    (λ t e. cc)

module _ (c : Decoded) (h : Held) (mask places room : ℕ) where
  module _ (few : length c.signals ≤ 64) (xs : List Status) (low : Least (status_equations c h.states mask) xs) where
    -- what the least solution tells
    least_tells : Resolved c h.states mask xs xs (λ _. false) (unresolved_in c xs)
    least_tells =
        let long = low.long in
        let found : Solved (status_equations c h.states mask) xs xs (λ _. false) = record {
          holds_least = take_all (length c.signals) xs (omega arith) ∙ status_only c h.states mask few xs low;
          solution = low.solution;
          lowest = low.lowest;
          untouched = refl;
          idle = λ i. refl;
        } in
        resolved c h.states mask few xs xs (λ _. false) found (unresolved_in c xs) (unresolved_names c xs)

    module _ (passes : Passes c h mask places) (reply : Reply) (is : reply ≡ (outcome_of c h mask places room).reply) where
      -- the answer comes from the reaction of the least solution
      reacted : reply ≡ (publishes c h room (reaction c h.states xs)).reply
      reacted = is ∙ ap (λ o. o.reply) (passed c h mask places room passes) ∙ ap (λ ys. (publishes c h room (reaction c h.states ys)).reply) (sym (status_only c h.states mask few xs low))

      -- signals are unknown
      reply_unresolved : SomeUnknown c xs → reply ≡ refused (Instant (Unresolved (unresolved_in c xs)))
      reply_unresolved some = reacted ∙ ap (λ r. (publishes c h room r).reply) (cond-false (eqb (unresolved_in c xs) 0) _ _ (ne_eqb (unresolved_in c xs) 0 (some_named c xs some)))

      -- none is
      reply_written : unresolved_in c xs ≡ 0 → reply ≡ (writes h room xs (line_for c h xs) (next_for c h xs)).reply
      reply_written none = reacted ∙ ap (λ r. (publishes c h room r).reply) (cond-true (eqb (unresolved_in c xs) 0) _ _ (eq-eqb (unresolved_in c xs) 0 none))

      -- a refusal as unresolved names the unknown signals
      reply_names : (m : ℕ) → reply ≡ refused (Instant (Unresolved m)) → SomeUnknown c xs × Names c xs m
      reply_names m e = ⊎_elim
          (λ (none : unresolved_in c xs ≡ 0). absurd (never_unresolved h room xs (line_for c h xs) (next_for c h xs) m (sym (reply_written none) ∙ e)))
          (λ (some : SomeUnknown c xs). let f = reply_unresolved some in let same : unresolved_in c xs ≡ m = cc in (some, subst (Names c xs) same (unresolved_names c xs)))
          (unknown_cases c xs)

      -- where no signal is unknown, the line is written
      reply_known : (SomeUnknown c xs → ⊥) → reply ≡ (writes h room xs (line_for c h xs) (next_for c h xs)).reply
      reply_known known = ⊎_elim (λ (none : unresolved_in c xs ≡ 0). reply_written none) (λ (some : SomeUnknown c xs). absurd (known some)) (unknown_cases c xs)

      -- an acceptance has the least solution, which leaves nothing unknown
      reply_accepted : (ys : List Status) (line : List ℕ) → reply ≡ accepted ys line → (xs ≡ ys) × (unresolved_in c xs ≡ 0)
      reply_accepted ys line e = ⊎_elim
          (λ (none : unresolved_in c xs ≡ 0). (same_statuses h room xs (line_for c h xs) (next_for c h xs) ys line (sym (reply_written none) ∙ e), none))
          (λ (some : SomeUnknown c xs). let f = reply_unresolved some in let z : ◌≡◌ {A = ℕ} 0 1 = cc in absurd (omega arith))
          (unknown_cases c xs)

  -- an instant that passes the earlier checks and is answered by the rules keeps its law
  pub instant_law : length c.signals ≤ 64 → Passes c h mask places → (reply : Reply) → reply ≡ (outcome_of c h mask places room).reply → InstantLaw c h mask room reply
  instant_law few passes reply is =
      let s = status_equations c h.states mask in
      let one = one_status c h.states mask few in
      record {
        one = one;
        unresolved = λ xs low some. (unresolved_in c xs, reply_unresolved few xs low passes reply is some, unresolved_names c xs);
        names = λ xs low. reply_names few xs low passes reply is;
        fits = λ xs low known enough.
            reply_known few xs low passes reply is known ∙ ap (λ (o : Outcome). o.reply) (cond-false (ltb room (length (line_for c h xs))) _ _ (le-ltb room (length (line_for c h xs)) enough));
        longer = λ xs low known beyond.
            reply_known few xs low passes reply is known ∙ ap (λ (o : Outcome). o.reply) (cond-true (ltb room (length (line_for c h xs))) _ _ (lt-ltb room (length (line_for c h xs)) beyond));
        solves = λ xs line e.
            let l = reply_accepted few one.least one.is passes reply is xs line e in
            let low : Least s xs = subst (Least s) l.0 one.is in
            (low.long, low.solution, (least_tells few xs low).decided (ap (unresolved_in c) (sym l.0) ∙ l.1));
        only = λ xs line e ys long solves decides.
            let l = reply_accepted few one.least one.is passes reply is xs line e in
            let low = one.is.long in
            ext_get_or unknown ys one.least (long ∙ sym low) (λ k below. (least_tells few one.least one.is).only l.1 ys (omega arith) solves decides k (omega arith)) ∙ l.0;
      }
