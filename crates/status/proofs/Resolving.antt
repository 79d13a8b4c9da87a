-- What the least solution of an instant's equations tells. Assumes nothing.
use Rattle.std.proofs.Common.{◌≡◌, ℕ, ◌*◌, ◌<◌, ◌≤◌, Bool, true, false, not, ◌&&◌, ltb, List, length, get_or, take, Ok, Err, Option, Result, sym, refl, ap, ◌∙◌, subst, inl, inr, ⊎_elim, arith}
use Rattle.std.proofs.lemmas.List.{get_or-take, length-take-le}
use Rattle.std.proofs.lemmas.Bool.{both_ways, cases_lt, lt-ltb}
use Rattle.std.proofs.lemmas.Bool.Decides.{nat_tests}
use Rattle.bits.specs.Bits.{bit}
use Rattle.bits.proofs.Digits.{bit_zero}
use Rattle.fixpoint.specs.Solver.{Solved}
use Rattle.fixpoint.specs.System.{least}
use Rattle.chart.specs.Decoded.{Decoded}
use Rattle.status.specs.Equations.{status_equations}
use Rattle.status.specs.Solved.{Decided, Resolved, is_unknown}
use Rattle.status.specs.Status.{status, unknown}
use Rattle.status.specs.declared.status.Status.{Status}
use Rattle.status.proofs.Clashes.{NoClash, no_clash}
use Rattle.status.proofs.Deciding.{only_solution}

-- what was not refused has places enough
pub not_refused : {A E : Type 0} (a : A) (e : E) (places n : ℕ) → (places < n → ◌≡◌ {A = Result A E} (Ok a) (Err e)) → n ≤ places
not_refused a e places n refused = ⊎_elim
    (λ (l : places < n). let no = refused l in let clash : ◌≡◌ {A = ℕ} 0 1 = cc in omega arith)
    (λ (l : n ≤ places). l)
    (cases_lt places n)

-- the unknown signals among the first places
pub unknown_taken : (n : ℕ) (xs : List Status) (s : ℕ) → n ≤ length xs → (ltb s (length (take n xs)) && is_unknown (get_or (take n xs) s unknown)) ≡ (ltb s n && is_unknown (get_or xs s unknown))
unknown_taken n xs s enough =
    let long = length-take-le n xs enough in
    ⊎_elim
    (λ (l : s < n). λ i. ltb s (long i) && is_unknown (get_or-take n xs s unknown l i))
    (λ (l : n ≤ s). grind (arith, nat_tests))
    (cases_lt s n)

-- a status that is neither unknown nor a clash is decided
marks_decided : (p a : Bool) → (not p && not a) ≡ false → (p ≡ true → a ≡ true → ⊥) → Decided (status p a)
marks_decided true true known apart = absurd (apart refl refl)
marks_decided true false known apart = inl refl
marks_decided false true known apart = inr refl
marks_decided false false known apart = absurd (both_ways true known refl)

module _ (c : Decoded) (states : List (Option ℕ)) (mask : ℕ) (few : length c.signals ≤ 64) (before after : List Status) (waiting : ℕ → Bool)
    (solved : Solved (status_equations c states mask) before after waiting) where
  -- the first places hold the least solution
  first_places : (k : ℕ) → k < length c.signals → get_or after k unknown ≡ get_or (least (status_equations c states mask)) k unknown
  first_places k l = sym (get_or-take (length c.signals) after k unknown l) ∙ ap (λ xs. get_or xs k unknown) solved.holds_least

  clashless : (k : ℕ) → k < length c.signals → NoClash (get_or after k unknown)
  clashless k l = subst NoClash (sym (first_places k l)) (no_clash c states mask (length c.signals * 2) k l)

  pub resolved : (m : ℕ) → ((s : ℕ) → bit m s ≡ (ltb s (length c.signals) && is_unknown (get_or after s unknown)))
      → Resolved c states mask before after waiting m
  resolved m named =
      let decided : m ≡ 0 → (k : ℕ) → k < length c.signals → Decided (get_or after k unknown) = λ z k l.
      let known : is_unknown (get_or after k unknown) ≡ false =
      let clear : bit m k ≡ false = ap (λ w. bit w k) z ∙ bit_zero k in
      let inside = lt-ltb k (length c.signals) l in
      let e = named k in
      grind (arith, nat_tests) in
      marks_decided (get_or after k unknown).present (get_or after k unknown).absent known (clashless k l) in
      record {
        solved = solved;
        clashless = clashless;
        named = named;
        decided = decided;
        only = λ z xs long solves all k l.
            only_solution c states mask few (λ j h. subst Decided (first_places j h) (decided z j h)) xs long solves all k l ∙ sym (first_places k l);
      }
