-- The first fired transition of an automaton, found by looking through the transitions. Assumes nothing.
use Rattle.std.proofs.Common.{◌≡◌, ℕ, Bool, true, false, cond, ◌&&◌, eqb, List, [], ◌∷◌, map, Some, None, filter, Option, sym, refl, ap, ◌∙◌}
use Rattle.std.specs.List.{enumerate_from, find, slice_get}
use Rattle.std.specs.Option.{option_map}
use Rattle.chart.specs.Decoded.{Decoded, transition}
use Rattle.chart.specs.declared.transition.Transition.{Transition}
use Rattle.reaction.specs.Next.{fired_by}
use Rattle.reaction.proofs.Chosen.{numbered}

-- whether transition i fired and is of automaton k
abbrev pub moves_it : Decoded → (ℕ → Bool) → ℕ → ℕ → Bool
moves_it c fired k i = fired i && eqb (transition c i).automaton k

-- the first that passes a test is the first of those that do
first_of : (test : ℕ × Transition → Bool) (xs : List (ℕ × Transition)) → option_map (λ p. p.1) (find test xs) ≡ slice_get (map (λ p. p.1) (filter test xs)) 0
first_of test [] = refl
first_of test (x ∷ xs) =
    elim (test x) as (λ b. option_map (λ (p : ℕ × Transition). p.1) (cond b (Some x) (find test xs)) ≡ slice_get (map (λ (p : ℕ × Transition). p.1) (cond b (x ∷ filter test xs) (filter test xs))) 0)
    [ true ↦ refl | false ↦ first_of test xs ]

pub first_fired : (c : Decoded) (fired : ℕ → Bool) (k : ℕ) (r : Option (ℕ × Transition)) → option_map (λ p. (p.0, p.1)) r ≡ find (λ p. fired p.0 && eqb p.1.automaton k) (enumerate_from 0 c.transitions)
    → option_map (λ p. p.1) r ≡ slice_get (fired_by c fired k) 0
first_fired c fired k r e =
    parts r
    ∙ ap (option_map (λ (p : ℕ × Transition). p.1)) e
    ∙ first_of (λ p. fired p.0 && eqb p.1.automaton k) (enumerate_from 0 c.transitions)
    ∙ ap (λ ts. slice_get ts 0) (sym (numbered c (λ i t. fired i && eqb t.automaton k)))
  where
    parts : (r : Option (ℕ × Transition)) → option_map (λ p. p.1) r ≡ option_map (λ (p : ℕ × Transition). p.1) (option_map (λ p. (p.0, p.1)) r)
    parts None = refl
    parts (Some p) = refl
