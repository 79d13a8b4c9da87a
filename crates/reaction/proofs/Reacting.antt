-- The answer of an instant agrees with what its equations come to. Assumes nothing.
use Rattle.std.proofs.Common.{◌≡◌, ℕ, ◌*◌, ◌^◌, ◌<◌, ◌≤◌, Bool, true, false, cond, ◌&&◌, eqb, ltb, List, map, length, get_or, take, None, Ok, Err, Option, sym, refl, ap, ◌∙◌, subst, arith, pow_mono}
use Rattle.std.specs.List.{range_with_len, slice_get}
use Rattle.std.proofs.lemmas.List.FromFn.{fill_by_all, get_or-map-range_with_len, length-map-range_with_len}
use Rattle.std.proofs.lemmas.List.{get_or-take, length-take, take-take}
use Rattle.std.proofs.lemmas.Bool.{cond-true, cond-false, eq-eqb, ne_eqb}
use Rattle.bits.proofs.Masks.{bit_mask, mask_same, mask_small, same_word}
use Rattle.fixpoint.specs.Marks.{marked}
use Rattle.fixpoint.proofs.Leastness.{length_rounds}
use Rattle.chart.specs.Decoded.{Decoded, decode}
use Rattle.chart.specs.Layout.{Layout}
use Rattle.chart.proofs.Decoding.{few_signals}
use Rattle.status.specs.Equations.{status_equations}
use Rattle.status.specs.Fired.{FiredUnder, fires, has_fired}
use Rattle.status.specs.Solved.{Resolved, is_unknown}
use Rattle.status.specs.Status.{unknown}
use Rattle.status.specs.StatusLaws.{status_laws}
use Rattle.status.specs.declared.configuration.Configuration.{Configuration}
use Rattle.status.specs.declared.status.Status.{Status}
use Rattle.reaction.specs.Next.{next, padded}
use Rattle.reaction.specs.React.{Agrees, Reacts, decided, react, reaction, undecided, unresolved_in}
use Rattle.reaction.specs.Value.{amounts_of, signal_value, value_of, values}
use Rattle.reaction.specs.declared.fault.Fault.{Fault}
use Rattle.reaction.specs.declared.fault.Fault.TheVariants.{Instant}
use Rattle.reaction.specs.declared.fault.InstantFault.TheVariants.{Unresolved}
use Rattle.reaction.specs.declared.react.Step.{Step}

-- lists made of functions that agree below n
map_same : {X : Type 0} (f g : ℕ → X) (n : ℕ) (d : X) → ((k : ℕ) → k < n → f k ≡ g k) → map f (range_with_len 0 n) ≡ map g (range_with_len 0 n)
map_same f g n d h = fill_by_all g (map f (range_with_len 0 n)) n d (length-map-range_with_len f 0 n) (λ k l. get_or-map-range_with_len f 0 n k k d l (omega arith) ∙ h k l)

module _ (c : Decoded) (states : List (Option ℕ)) (xs : List Status) where
  front : List Status
  front = take (length c.signals) xs

  -- the mask of the unresolved signals depends on the signals' places alone
  unresolved_front : unresolved_in c xs ≡ unresolved_in c front
  unfolding front
  unresolved_front = mask_same (λ s. is_unknown (get_or xs s unknown)) (λ s. is_unknown (get_or front s unknown)) (length c.signals) (λ s l. ap is_unknown (sym (get_or-take (length c.signals) xs s unknown l)))

  -- and so do the transitions that fired
  fired_front : has_fired c states xs ≡ has_fired c states front
  unfolding front
  fired_front = λ i k. ltb k (length c.transitions) && fires c states (λ s. get_or (sym (take-take (length c.signals) (length c.signals) xs (omega arith)) i) s unknown) k

  -- and the values
  values_front : (fired : ℕ → Bool) → values c fired xs ≡ values c fired front
  unfolding front
  values_front fired = map_same (value_of c fired xs) (value_of c fired front) (length c.signals) None (λ s l. ap (λ (a : Status). cond a.present (signal_value (slice_get c.signals s) (amounts_of c fired s)) None) (sym (get_or-take (length c.signals) xs s unknown l)))

module _ (c : Decoded) (states : List (Option ℕ)) (mask : ℕ) (few : length c.signals ≤ 64) (before after : List Status) (waiting : ℕ → Bool)
    (m : ℕ) (small : m < 2 ^ 64) (r : Resolved c states mask before after waiting m) where
  -- the area has a place for each signal
  places_enough : length c.signals ≤ length after
  places_enough =
      let s = status_equations c states mask in
      omega (arith, length_rounds s (status_laws c states mask few) (length c.signals * 2), ap length r.solved.holds_least, length-take (length c.signals) after)

  -- the answered mask is the mask of the unresolved signals
  named : m ≡ unresolved_in c after
  named =
      let test : ℕ → Bool = λ s. is_unknown (get_or after s unknown) in
      let wide : 2 ^ length c.signals ≤ 2 ^ 64 = pow_mono few in
      let narrow = mask_small test (length c.signals) in
      same_word 64 m (unresolved_in c after) small (omega arith) (λ j _. r.named j ∙ sym (bit_mask test (length c.signals) j))

  resolved_all : Resolved c states mask before after waiting (unresolved_in c after)
  resolved_all = subst (Resolved c states mask before after waiting) named r

  -- what the statuses in the area come to is what the instant comes to
  comes_to : reaction c states (take (length c.signals) after) ≡ react c states mask
  comes_to = ap (reaction c states) r.solved.holds_least

  first : m ≡ unresolved_in c (take (length c.signals) after)
  unfolding front
  first = named ∙ unresolved_front c states after

  -- signals are unresolved
  agrees_no : (m ≡ 0 → ⊥) → Agrees c states after (Err (Instant (Unresolved m))) (react c states mask)
  agrees_no some =
      let xs = take (length c.signals) after in
      let no : eqb (unresolved_in c xs) 0 ≡ false = ne_eqb (unresolved_in c xs) 0 (λ z. some (first ∙ z)) in
      let is : undecided m ≡ react c states mask = ap undecided first ∙ sym (cond-false (eqb (unresolved_in c xs) 0) _ _ no) ∙ comes_to in
      subst (Agrees c states after (Err (Instant (Unresolved m)))) is refl

  -- none is
  agrees_yes : (step : Step) → m ≡ 0 → FiredUnder c states after (marked step.fired.set) → step.after.states ≡ padded (next c (marked step.fired.set) states)
      → Agrees c states after (Ok step) (react c states mask)
  unfolding front
  agrees_yes step none under goes =
      let xs = take (length c.signals) after in
      let yes : eqb (unresolved_in c xs) 0 ≡ true = eq-eqb (unresolved_in c xs) 0 (sym first ∙ none) in
      let set : marked step.fired.set ≡ has_fired c states xs = (λ i k. under.is k i) ∙ fired_front c states after in
      let is : decided xs (values c (has_fired c states xs) xs) (next c (has_fired c states xs) states) ≡ react c states mask = sym (cond-true (eqb (unresolved_in c xs) 0) _ _ yes) ∙ comes_to in
      subst (Agrees c states after (Ok step)) is
      (refl, (under, values_front c states after (marked step.fired.set) ∙ ap (λ fired. values c fired xs) set, goes ∙ ap (λ fired. padded (next c fired states)) set))

-- the same of a system that has the chart's bytes, the configuration and the mask
module _ {from bytes : List ℕ} {p q : Configuration} {mask inputs : ℕ} (same : (from ≡ bytes) × (p ≡ q) × (mask ≡ inputs)) where
  -- what is known of the system is known of the chart
  of_chart : (P : List ℕ → List (Option ℕ) → ℕ → Type 0) → P from p.states mask → P bytes q.states inputs
  of_chart P h = subst (λ b. P b q.states inputs) same.0 (subst (λ (r : Configuration). P from r.states inputs) same.1 (subst (λ n. P from p.states n) same.2 h))

  module _ (layout : ∥ Layout bytes ∥₁) {before after : List Status} {waiting : ℕ → Bool} {m : ℕ} (small : m < 2 ^ 64) (r : Resolved (decode from) p.states mask before after waiting m) where
    known : Resolved (decode bytes) q.states inputs before after waiting m
    known = of_chart (λ b states n. Resolved (decode b) states n before after waiting m) r

    -- the area has a place for each signal
    pub enough : length (decode bytes).signals ≤ length after
    enough = places_enough (decode bytes) q.states inputs (few_signals bytes layout) before after waiting m small known

    pub reacts_no : (m ≡ 0 → ⊥) → {fault : Fault} → fault ≡ Instant (Unresolved m) → Reacts (decode bytes) q.states inputs before after waiting (Err fault)
    reacts_no some is = subst (λ e. Reacts (decode bytes) q.states inputs before after waiting (Err e)) (sym is) (record {
      resolved = resolved_all (decode bytes) q.states inputs (few_signals bytes layout) before after waiting m small known;
      agrees = agrees_no (decode bytes) q.states inputs (few_signals bytes layout) before after waiting m small known some;
    })

    pub reacts_yes : (step : Step) → m ≡ 0 → FiredUnder (decode from) p.states after (marked step.fired.set) → step.after.states ≡ padded (next (decode bytes) (marked step.fired.set) q.states)
        → Reacts (decode bytes) q.states inputs before after waiting (Ok step)
    reacts_yes step none under goes = record {
      resolved = resolved_all (decode bytes) q.states inputs (few_signals bytes layout) before after waiting m small known;
      agrees = agrees_yes (decode bytes) q.states inputs (few_signals bytes layout) before after waiting m small known step none (of_chart (λ b states n. FiredUnder (decode b) states after (marked step.fired.set)) under) goes;
    }
