-- Taking an instant: it is refused, or its line is written. Assumes nothing.
use Rattle.std.proofs.Common.{◌≡◌, ℕ, ◌+◌, ◌<◌, ◌≤◌, Bool, true, false, cond, not, eqb, ltb, List, length, take, Ok, Err, Option, Result, sym, refl, ap, ◌∙◌, subst, ⊎_elim, arith}
use Rattle.std.proofs.lemmas.Bool.{cases_lt, cond-true, cond-false, ne_eqb}
use Rattle.bits.specs.Bits.{bit}
use Rattle.fixpoint.specs.Solver.{Solved}
use Rattle.fixpoint.specs.Marks.{marked}
use Rattle.fixpoint.specs.System.{least}
use Rattle.chart.specs.Decoded.{Decoded, input}
use Rattle.status.specs.Equations.{status_equations}
use Rattle.status.specs.Fired.{has_fired}
use Rattle.status.specs.declared.status.Status.{Status}
use Rattle.reaction.specs.Next.{next, padded}
use Rattle.reaction.specs.React.{Agrees, Reaction, Reacts, decided, react, undecided, unresolved_in}
use Rattle.reaction.specs.Value.{values}
use Rattle.reaction.specs.declared.fault.Fault.{Fault}
use Rattle.reaction.specs.declared.fault.Fault.TheVariants.{Instant, Solver}
use Rattle.reaction.specs.declared.fault.InstantFault.{InstantFault}
use Rattle.reaction.specs.declared.fault.InstantFault.TheVariants.{LongLine, NotInputs, Unresolved}
use Rattle.reaction.specs.declared.react.Step.{Step}
use Rattle.trace.specs.Line.{line_of, write_answer, write_buffer}
use Rattle.engine.specs.Answer.{Held, Outcome, accepted, not_inputs, outcome_of, publishes, refuses, writes}
use Rattle.engine.specs.Instant.{Passes}
use Rattle.engine.specs.Runner.{Given, Takes, held}
use Rattle.engine.proofs.Inputs.{only_inputs}
use Rattle.engine.proofs.Lines.{line_front}
use Rattle.engine.proofs.Outcomes.{crowded, passed}

-- what writing says where it refuses, and where it answers a length
refused_line : (b : Bool) (f : InstantFault) (n : ℕ) → ◌≡◌ {A = Result ℕ InstantFault} (Err f) (cond b (Err (LongLine n)) (Ok n)) → (b ≡ true) × (f ≡ LongLine n)
refused_line true f n e = (refl, cc)
refused_line false f n e = let z : ◌≡◌ {A = ℕ} 0 1 = cc in absurd (omega arith)

accepted_line : (b : Bool) (m n : ℕ) → ◌≡◌ {A = Result ℕ InstantFault} (Ok m) (cond b (Err (LongLine n)) (Ok n)) → (b ≡ false) × (m ≡ n)
accepted_line true m n e = let z : ◌≡◌ {A = ℕ} 0 1 = cc in absurd (omega arith)
accepted_line false m n e = (refl, cc)

-- what an instant comes to: its least solution, the values and the configuration after it
solution : Decoded → Held → ℕ → List Status
solution c h mask = least (status_equations c h.states mask)

valued : Decoded → Held → ℕ → List (Option ℕ)
unfolding solution
valued c h mask = values c (has_fired c h.states (solution c h mask)) (solution c h mask)

later : Decoded → Held → ℕ → List (Option ℕ)
unfolding solution
later c h mask = next c (has_fired c h.states (solution c h mask)) h.states

module _ {c : Decoded} (h : Held) {mask : ℕ} {before after : List Status} {waiting : ℕ → Bool} (step : Step) (r : Reacts c h.states mask before after waiting (Ok step)) where
  -- where an instant is accepted, that is what its answer says
  known : (eqb (unresolved_in c (solution c h mask)) 0 ≡ true) × (take (length c.signals) after ≡ solution c h mask) × (values c (marked step.fired.set) after ≡ valued c h mask) × (step.after.states ≡ padded (later c h mask))
  unfolding solution valued later
  known = agreed (eqb (unresolved_in c (solution c h mask)) 0) (unresolved_in c (solution c h mask)) r.agrees
    where
      agreed : (b : Bool) (u : ℕ) → Agrees c h.states after (Ok step) (cond b (decided (solution c h mask) (valued c h mask) (later c h mask)) (undecided u))
          → (b ≡ true) × (take (length c.signals) after ≡ solution c h mask) × (values c (marked step.fired.set) after ≡ valued c h mask) × (step.after.states ≡ padded (later c h mask))
      agreed true u a = (refl, a.0, a.1.1, a.1.2)
      agreed false u e = let z : ◌≡◌ {A = ℕ} 0 1 = cc in absurd (omega arith)

  -- and its line is the one of the least solution
  written : (room : ℕ) (text : List ℕ) → text ≡ line_of c (h.count + 1) after (values c (marked step.fired.set) after) step.after.states
      → publishes c h room (react c h.states mask) ≡ writes h room (solution c h mask) text (later c h mask)
  unfolding solution valued later
  written room text is =
      let k = known in
      let xs = solution c h mask in
      let vs = valued c h mask in
      let states = later c h mask in
      ap (publishes c h room) (cond-true (eqb (unresolved_in c xs) 0) (decided xs vs states) (undecided (unresolved_in c xs)) k.0)
      ∙ ap (λ t. writes h room xs t states) (sym (is ∙ (λ i. line_of c (h.count + 1) after (k.2 i) (k.3 i)) ∙ line_front c (h.count + 1) after vs states ∙ ap (λ ys. line_of c (h.count + 1) ys vs states) k.1))

-- an answer that the outcome gives
taken : {c : Decoded} {h then : Held} {mask : ℕ} {before after : List Status} {waiting : ℕ → Bool} {Unchanged : Type 0} {old new : List ℕ} {answer : Result ℕ Fault} (o : Outcome)
    → outcome_of c h mask (length before) (length old) ≡ o → then ≡ o.after → Given o.reply old new (length c.signals) after answer
    → (Passes c h mask (length before) → Solved (status_equations c h.states mask) before after waiting)
    → ((Passes c h mask (length before) → ⊥) → (after ≡ before) × Unchanged)
    → Takes c h mask before after waiting Unchanged old new answer then
taken {c} {h} {then} {mask} {before} {after} {waiting} {Unchanged} {old} {new} {answer} o is holds gives solved unchanged = record {
  holds = holds ∙ sym (ap (λ p. p.after) is);
  gives = subst (λ p. Given p.reply old new (length c.signals) after answer) (sym is) gives;
  solved = solved;
  unchanged = unchanged;
}

-- an instant that is refused before it is solved
module _ {c : Decoded} {h : Held} {mask : ℕ} {before : List Status} {waiting : ℕ → Bool} {Unchanged : Type 0} {old : List ℕ} (same : Unchanged) where
  takes_nothing : (fault : Fault) → outcome_of c h mask (length before) (length old) ≡ refuses h fault → (Passes c h mask (length before) → ⊥) → Takes c h mask before before waiting Unchanged old old (Err fault) h
  takes_nothing fault e never = taken (refuses h fault) e refl (refl, refl) (λ p. absurd (never p)) (λ _. (refl, same))

  -- the mask has bits that are not inputs
  pub takes_others : (others : ℕ) → others ≡ not_inputs c mask → (others ≡ 0 → ⊥) → Takes c h mask before before waiting Unchanged old old (Err (Instant (NotInputs others))) h
  takes_others others is some =
      subst (λ m. Takes c h mask before before waiting Unchanged old old (Err (Instant (NotInputs m))) h) (sym is)
      (takes_nothing (Instant (NotInputs (not_inputs c mask))) (cond-true (not (eqb (not_inputs c mask) 0)) _ _ (ap not (ne_eqb (not_inputs c mask) 0 (λ z. some (is ∙ z))))) (λ p. some (is ∙ only_inputs c mask p.0)))

-- an instant that passes the earlier checks, and its reaction
module _ {c : Decoded} {h : Held} {mask : ℕ} {before after : List Status} {waiting : ℕ → Bool} {Unchanged : Type 0} {old new : List ℕ} (passes : Passes c h mask (length before)) where
  reacted : {stepped : Result Step Fault} {answer : Result ℕ Fault} {then : Held} (o : Outcome) → Reacts c h.states mask before after waiting stepped → publishes c h (length old) (react c h.states mask) ≡ o
      → then ≡ o.after → Given o.reply old new (length c.signals) after answer → Takes c h mask before after waiting Unchanged old new answer then
  reacted o r is holds gives = taken o (passed c h mask (length before) (length old) passes ∙ is) holds gives (λ _. r.resolved.solved) (λ np. absurd (np passes))

  -- signals are unresolved
  pub takes_unresolved : (fault : Fault) → Reacts c h.states mask before after waiting (Err fault) → new ≡ old → Takes c h mask before after waiting Unchanged old new (Err fault) h
  takes_unresolved fault r kept = reacted (refuses h fault) r (agreed (react c h.states mask) r.agrees) refl (refl, kept)
    where
      agreed : (x : Reaction) → Agrees c h.states after (Err fault) x → publishes c h (length old) x ≡ refuses h fault
      agreed (undecided signals) e = let f : fault ≡ Instant (Unresolved signals) = cc in ap (refuses h) (sym f)
      agreed (decided statuses vs later) p = absurd p.1

  -- its line is longer than the buffer
  pub takes_long : {step : Step} (r : Reacts c h.states mask before after waiting (Ok step)) (text : List ℕ) → text ≡ line_of c (h.count + 1) after (values c (marked step.fired.set) after) step.after.states
      → (f : InstantFault) → Err f ≡ write_answer text (length old) → new ≡ write_buffer text old → Takes c h mask before after waiting Unchanged old new (Err (Instant f)) h
  takes_long {step} r text is f answer buffer =
      let long = refused_line (ltb (length old) (length text)) f (length text) answer in
      reacted (refuses h (Instant (LongLine (length text)))) r (written h step r (length old) text is ∙ cond-true (ltb (length old) (length text)) _ _ long.0) refl
      (ap (λ g. Err (Instant g)) long.1, buffer ∙ cond-true (ltb (length old) (length text)) _ _ long.0)

  -- it fits
  pub takes_written : {step : Step} (r : Reacts c h.states mask before after waiting (Ok step)) (text : List ℕ) → text ≡ line_of c (h.count + 1) after (values c (marked step.fired.set) after) step.after.states
      → (m : ℕ) → Ok m ≡ write_answer text (length old) → new ≡ write_buffer text old → Takes c h mask before after waiting Unchanged old new (Ok m) (held (h.count + 1) step.after.states)
  takes_written {step} r text is m answer buffer =
      let fits = accepted_line (ltb (length old) (length text)) m (length text) answer in
      let k = known h step r in
      reacted (record { reply = accepted (solution c h mask) text; after = held (h.count + 1) (padded (later c h mask)) }) r (written h step r (length old) text is ∙ cond-false (ltb (length old) (length text)) _ _ fits.0) (ap (held (h.count + 1)) k.3)
      (ap Ok fits.1, buffer ∙ cond-false (ltb (length old) (length text)) _ _ fits.0, k.1)

-- an instant that is refused by the solver or as unresolved
pub takes_stopped : {c : Decoded} {h : Held} {mask : ℕ} {before after : List Status} {waiting : ℕ → Bool} {Unchanged : Type 0} {old : List ℕ} {fault : Fault}
    → ((s : ℕ) → bit mask s ≡ true → input c s ≡ true) → h.count < 1000000
    → (length before < length c.signals → (◌≡◌ {A = Result Step Fault} (Err fault) (Err (Solver (record { needed = length c.signals })))) × (after ≡ before) × Unchanged)
    → (length c.signals ≤ length before → Reacts c h.states mask before after waiting (Err fault)) → Takes c h mask before after waiting Unchanged old old (Err fault) h
takes_stopped {c} {h} {mask} {before} {after} {waiting} {Unchanged} {old} {fault} inputs few short enough = ⊎_elim
    (λ (l : length before < length c.signals).
    let s = short l in
    let f : fault ≡ Solver (record { needed = length c.signals }) = let e = s.0 in cc in
    rw (f, s.1) (takes_nothing s.2 (Solver (record { needed = length c.signals })) (crowded c h mask (length before) (length old) inputs few l) (λ p. let m = p.2 in omega arith)))
    (λ (l : length c.signals ≤ length before). takes_unresolved (inputs, few, l) fault (enough l) refl)
    (cases_lt (length before) (length c.signals))
