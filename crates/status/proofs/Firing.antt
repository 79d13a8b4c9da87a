-- Which transitions fired. Assumes nothing.
use Rattle.std.proofs.Common.{◌≡◌, ℕ, ◌<◌, Bool, true, ◌&&◌, ltb, List, length, get_or, take, Option, sym, ap, ◌∙◌, ⊎_elim, zero-add, arith}
use Rattle.std.specs.List.{enumerate_from}
use Rattle.std.proofs.lemmas.Bool.{and_parts, cases_order, ltb-true}
use Rattle.std.proofs.lemmas.List.{get_or_default}
use Rattle.std.proofs.lemmas.List.FromFn.{get_or-enumerate_from, length-enumerate_from}
use Rattle.chart.specs.Decoded.{Decoded, no_transition, transition}
use Rattle.chart.specs.declared.transition.Transition.{Transition}
use Rattle.status.specs.Equations.{assigned, firing, live}
use Rattle.status.specs.Fired.{FiredUnder, fires, has_fired}
use Rattle.status.specs.Solved.{DecidedAll}
use Rattle.status.specs.declared.status.Status.{Status}
use Rattle.status.proofs.Deciding.{one_firing_decided}

-- whether the next of the numbered transitions fires
pub fires_next : (c : Decoded) (states : List (Option ℕ)) (u : ℕ → Status) (n k : ℕ) (t : Transition) {alive : Bool} {f : Status}
    → (n < length (enumerate_from 0 c.transitions)) × ((k, t) ≡ get_or (enumerate_from 0 c.transitions) n (k, t)) → alive ≡ live states t → f ≡ firing states u (take k c.transitions) t
    → (n < length c.transitions) × (k ≡ n) × ((alive && f.present) ≡ fires c states u n)
fires_next c states u n k t at lives shown =
    let inside : n < length c.transitions = omega (arith, length-enumerate_from 0 c.transitions, at.0) in
    let item = at.1 ∙ get_or-enumerate_from 0 c.transitions n (k, t) inside in
    let number = ap (λ p. p.0) item ∙ zero-add n in
    let same = ap (λ p. p.1) item ∙ get_or_default c.transitions n t no_transition inside in
    (inside, number, λ i. (lives ∙ ap (live states) same) i && ((shown ∙ (λ j. firing states u (take (number j) c.transitions) (same j))) i).present)

module _ (c : Decoded) (states : List (Option ℕ)) (xs : List Status) (decided : DecidedAll (length c.signals) xs) where
  -- of two transitions of one automaton the earlier excludes the later
  not_both : (i j : ℕ) → i < j → has_fired c states xs i ≡ true → has_fired c states xs j ≡ true → (transition c i).automaton ≡ (transition c j).automaton → ⊥
  not_both i j l p q same =
      let first = (and_parts (ltb i (length c.transitions)) (fires c states (assigned (length c.signals) xs) i) p).1 in
      let inside = and_parts (ltb j (length c.transitions)) (fires c states (assigned (length c.signals) xs) j) q in
      let a = and_parts (live states (transition c i)) _ first in
      let b = and_parts (live states (transition c j)) _ inside.1 in
      one_firing_decided (length c.signals) xs decided states c.transitions i j l (ltb-true j (length c.transitions) inside.0) a.0 same a.1 b.1

pub fired_under : (c : Decoded) (states : List (Option ℕ)) (xs : List Status) (set : ℕ → Bool) → ((k : ℕ) → set k ≡ has_fired c states xs k) → FiredUnder c states xs set
fired_under c states xs set is = record {
  is = is;
  one = λ decided i j p q same.
      let pi = sym (is i) ∙ p in
      let qj = sym (is j) ∙ q in
      ⊎_elim
      (λ (e : i ≡ j). e)
      (⊎_elim
      (λ (l : i < j). absurd (not_both c states xs decided i j l pi qj same))
      (λ (l : j < i). absurd (not_both c states xs decided j i l qj pi (sym same))))
      (cases_order i j);
}
