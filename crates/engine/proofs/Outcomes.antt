-- The outcome of an instant: by the earlier checks, or by its reaction. Assumes nothing.
use Rattle.std.proofs.Common.{◌≡◌, ℕ, ◌+◌, ◌^◌, ◌<◌, ◌≤◌, true, cond, not, eqb, ltb, ◌⊎◌, length, ◌∙◌, inl, inr, ⊎_elim, arith}
use Rattle.std.proofs.lemmas.Bool.{cases_eq, cases_lt, cond_both, cond-false, cond-true, eq-eqb, eqb-false, le-ltb, lt-ltb, ne_eqb, not_from_true}
use Rattle.bits.specs.Bits.{bit}
use Rattle.fixpoint.specs.System.{least}
use Rattle.chart.specs.Decoded.{Decoded, input}
use Rattle.status.specs.Equations.{status_equations}
use Rattle.status.specs.Fired.{has_fired}
use Rattle.reaction.specs.Next.{next, padded}
use Rattle.reaction.specs.React.{decided, react, undecided, unresolved_in}
use Rattle.reaction.specs.Value.{values}
use Rattle.reaction.specs.declared.fault.Fault.{Fault}
use Rattle.reaction.specs.declared.fault.Fault.TheVariants.{Solver}
use Rattle.engine.specs.Answer.{Held, Outcome, accepted, not_inputs, outcome_of, places_needed, publishes, refuses}
use Rattle.engine.specs.Instant.{Passes, line_for}
use Rattle.engine.specs.Runner.{held}
use Rattle.engine.proofs.Inputs.{inputs_only, only_inputs}

-- an instant passes the earlier checks, or does not
pub passes_or_not : (c : Decoded) (h : Held) (mask places : ℕ) → mask < 2 ^ 64 → Passes c h mask places ⊎ (Passes c h mask places → ⊥)
passes_or_not c h mask places small = ⊎_elim
    (λ (none : not_inputs c mask ≡ 0). ⊎_elim
    (λ (few : h.count < 1000000). ⊎_elim
    (λ (short : places < length c.signals). inr (λ p. let l = p.2 in omega arith))
    (λ (enough : length c.signals ≤ places). inl (inputs_only c mask small none, few, enough))
    (cases_lt places (length c.signals)))
    (λ (many : 1000000 ≤ h.count). inr (λ p. let l = p.1 in omega arith))
    (cases_lt h.count 1000000))
    (λ (some : not_inputs c mask ≡ 0 → ⊥). inr (λ p. some (only_inputs c mask p.0)))
    (cases_eq (not_inputs c mask) 0)

module _ (c : Decoded) (h : Held) (mask places room : ℕ) where
  -- where the mask has only inputs and the count is below a million, the places decide
  asked : ((s : ℕ) → bit mask s ≡ true → input c s ≡ true) → h.count < 1000000
      → outcome_of c h mask places room ≡ cond (ltb places (places_needed c)) (refuses h (Solver (record { needed = places_needed c }))) (publishes c h room (react c h.states mask))
  asked inputs few =
      cond-false (not (eqb (not_inputs c mask) 0)) _ _ (not_from_true (eqb (not_inputs c mask) 0) (eq-eqb (not_inputs c mask) 0 (only_inputs c mask inputs)))
      ∙ cond-false (eqb h.count 1000000) _ _ (ne_eqb h.count 1000000 (λ e. omega arith))

  -- an instant that passes the earlier checks is answered by its reaction
  pub passed : Passes c h mask places → outcome_of c h mask places room ≡ publishes c h room (react c h.states mask)
  passed p = asked p.0 p.1 ∙ cond-false (ltb places (places_needed c)) _ _ (le-ltb places (places_needed c) p.2)

  -- one with too few places is refused
  pub crowded : ((s : ℕ) → bit mask s ≡ true → input c s ≡ true) → h.count < 1000000 → places < places_needed c
      → outcome_of c h mask places room ≡ refuses h (Solver (record { needed = places_needed c }))
  crowded inputs few short = asked inputs few ∙ cond-true (ltb places (places_needed c)) _ _ (lt-ltb places (places_needed c) short)

  -- what each refusal has, and the acceptance of the least solution where the count is not a million, the outcome has
  pub by_outcome : (P : Outcome → Type 0) → ((fault : Fault) → P (refuses h fault))
      → let xs = least (status_equations c h.states mask) in
      ((h.count ≡ 1000000 → ⊥) → P (record { reply = accepted xs (line_for c h xs); after = held (h.count + 1) (padded (next c (has_fired c h.states xs) h.states)) }))
      → P (outcome_of c h mask places room)
  by_outcome P refused accepts =
      let xs = least (status_equations c h.states mask) in
      let fired = has_fired c h.states xs in
      cond_both (not (eqb (not_inputs c mask) 0)) _ _ P (λ _. refused _)
      (λ _. cond_both (eqb h.count 1000000) _ _ P (λ _. refused _)
      (λ below. cond_both (ltb places (places_needed c)) _ _ P (λ _. refused _)
      (λ _. cond_both (eqb (unresolved_in c xs) 0) (decided xs (values c fired xs) (next c fired h.states)) (undecided (unresolved_in c xs)) (λ r. P (publishes c h room r))
      (λ _. cond_both (ltb room (length (line_for c h xs))) _ _ P (λ _. refused _) (λ _. accepts (eqb-false h.count 1000000 below)))
      (λ _. refused _))))
