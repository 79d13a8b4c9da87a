-- No signal is shown both present and absent: a third use of the relation that the equations keep. Assumes nothing.
use Rattle.std.proofs.Common.{◌≡◌, ℕ, zero, suc, ◌<◌, true, ◌&&◌, ltb, leb, List, length, get_or, Option, sym, subst, ⊎_elim, arith}
use Rattle.std.proofs.lemmas.List.{get_or-replicate}
use Rattle.std.proofs.lemmas.List.FromFn.{get_or-map-range_with_len}
use Rattle.std.proofs.lemmas.Bool.{false≢true, both_ways, not-true, and_parts, or_cases, cond_both}
use Rattle.fixpoint.specs.System.{place, rounds}
use Rattle.chart.specs.Decoded.{Decoded}
use Rattle.chart.specs.declared.transition.Transition.{Transition}
use Rattle.status.specs.Equations.{guard, status_of, assigned, status_equations}
use Rattle.status.specs.Status.{unknown}
use Rattle.status.specs.StatusLaws.{Kept, guard_related, status_related, assigned_related}
use Rattle.status.specs.declared.status.Status.{Status}

-- a status that is not shown both present and absent
abbrev pub NoClash : Status → Type 0
NoClash a = a.present ≡ true → a.absent ≡ true → ⊥

-- the constants have no clash, and Not and And make none
no_clash_kept : Kept (λ a b. NoClash a)
no_clash_kept = record {
  blank = λ p q. false≢true p;
  shows = λ b p q. both_ways b (not-true b q) p;
  nots = λ a b h p q. h q p;
  ands = λ a b c d h k p q.
      let ps = and_parts a.present c.present p in
      ⊎_elim (λ (e : a.absent ≡ true). h ps.0 e) (λ (e : c.absent ≡ true). k ps.1 e) (or_cases a.absent c.absent q);
}

-- a guard over statuses without clash has none
pub guard_no_clash : (u : ℕ → Status) → ((s : ℕ) → NoClash (u s)) → (t : Transition) → NoClash (guard u t)
guard_no_clash u h t = guard_related (λ a b. NoClash a) no_clash_kept u u t (λ j m. h j)

-- the places of an assignment without clash give a valuation without clash
pub assigned_no_clash : (n : ℕ) (xs : List Status) → ((j : ℕ) → j < n → NoClash (get_or xs j unknown)) → (s : ℕ) → NoClash (assigned n xs s)
assigned_no_clash n xs h s = assigned_related (λ a b. NoClash a) no_clash_kept n xs xs s (h s)

module _ (c : Decoded) (states : List (Option ℕ)) (mask : ℕ) where
  -- each equation over an assignment without clash gives a status without clash
  pub evaluated_no_clash : (xs : List Status) → ((j : ℕ) → j < length c.signals → NoClash (get_or xs j unknown))
      → (i : ℕ) → NoClash ((status_equations c states mask).evaluate i xs)
  evaluated_no_clash xs h i =
      let n = length c.signals in
      let u = assigned n xs in
      cond_both (ltb i n && leb n (length xs)) (status_of c states mask u i) unknown NoClash
      (λ t. status_related (λ a b. NoClash a) no_clash_kept u u c states mask i (λ e j r. assigned_no_clash n xs h j))
      (λ t. no_clash_kept.blank)

  -- no round, so not the least solution either, has a clash
  pub no_clash : (m k : ℕ) → k < length c.signals → NoClash (place (status_equations c states mask) (rounds (status_equations c states mask) m) k)
  unfolding rounds
  no_clash zero k h = subst NoClash (sym (get_or-replicate (length c.signals) k unknown unknown h)) no_clash_kept.blank
  no_clash (suc m) k h =
      let before = rounds (status_equations c states mask) m in
      subst NoClash (sym (get_or-map-range_with_len (λ i. (status_equations c states mask).evaluate i before) 0 (length c.signals) k k unknown h (omega arith)))
      (evaluated_no_clash before (no_clash m) k)
