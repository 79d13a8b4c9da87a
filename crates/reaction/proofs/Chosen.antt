-- The transitions that are chosen from a set, by their numbers or with them. Assumes nothing.
use Rattle.std.proofs.Common.{◌≡◌, ℕ, ◌+◌, Bool, true, false, cond, ◌&&◌, List, [], ◌∷◌, ◌++◌, map, length, get_or, drop, filter, sym, refl, ap, ◌∙◌, arith}
use mathlib.Core.List.{map-map}
use Rattle.std.specs.List.{enumerate_from, range_with_len}
use Rattle.std.proofs.lemmas.List.FromFn.{map-range_with_len_more}
use Rattle.std.proofs.lemmas.List.{drop-drop, get_or-drop, map-id}
use Rattle.chart.specs.Decoded.{Decoded, no_transition, transition}
use Rattle.bits.specs.Bits.{bit}
use Rattle.chart.specs.declared.transition.Transition.{Transition}
use Rattle.reaction.specs.Value.{amounts_of, chosen}

pub counting_more : (n : ℕ) → range_with_len 0 (n + 1) ≡ range_with_len 0 n ++ (n ∷ [])
counting_more n = sym (map-id (range_with_len 0 (n + 1))) ∙ map-range_with_len_more (λ k. k) 0 n n (omega arith) ∙ ap (λ ks. ks ++ (n ∷ [])) (map-id (range_with_len 0 n))

-- one element more, chosen or not, on either side
one_more : {A B X : Type 0} (f : A → X) (g : B → X) (b : Bool) (x : A) (xs : List A) (y : B) (ys : List B) → f x ≡ g y → map f xs ≡ map g ys → map f (cond b (x ∷ xs) xs) ≡ map g (cond b (y ∷ ys) ys)
one_more f g true x xs y ys here rest = λ k. here k ∷ rest k
one_more f g false x xs y ys here rest = rest

-- a test of a transition and its number
module _ (c : Decoded) (test : ℕ → Transition → Bool) where
  numbered_from : (i : ℕ) (ts : List Transition) → drop i c.transitions ≡ ts
      → map (transition c) (filter (λ k. test k (transition c k)) (range_with_len i (length ts))) ≡ map (λ p. p.1) (filter (λ p. test p.0 p.1) (enumerate_from i ts))
  numbered_from i [] e = refl
  numbered_from i (t ∷ ts) e =
      let first : i + 0 ≡ i = omega arith in
      let here : transition c i ≡ t = sym (get_or-drop i c.transitions 0 no_transition ∙ ap (transition c) first) ∙ ap (λ xs. get_or xs 0 no_transition) e in
      let numbers = filter (λ k. test k (transition c k)) (range_with_len (i + 1) (length ts)) in
      let others = filter (λ p. test p.0 p.1) (enumerate_from (i + 1) ts) in
      ap (λ b. map (transition c) (cond b (i ∷ numbers) numbers)) (ap (test i) here)
      ∙ one_more (transition c) (λ p. p.1) (test i t) i numbers (i, t) others here (numbered_from (i + 1) ts (sym (drop-drop 1 i c.transitions) ∙ ap (drop 1) e))

  pub numbered : map (transition c) (filter (λ k. test k (transition c k)) (range_with_len 0 (length c.transitions))) ≡ map (λ p. p.1) (filter (λ p. test p.0 p.1) (enumerate_from 0 c.transitions))
  numbered = numbered_from 0 c.transitions refl

-- the amounts of the fired transitions that emit a signal
pub amounts_numbered : (c : Decoded) (fired : ℕ → Bool) (s : ℕ) → map (λ (p : ℕ × Transition). p.1.amount) (filter (λ p. fired p.0 && bit p.1.emitted s) (enumerate_from 0 c.transitions)) ≡ amounts_of c fired s
amounts_numbered c fired s =
    sym (map-map (λ (t : Transition). t.amount) (λ (p : ℕ × Transition). p.1) (filter (λ p. fired p.0 && bit p.1.emitted s) (enumerate_from 0 c.transitions)))
    ∙ ap (map (λ t. t.amount)) (sym (numbered c (λ k t. fired k && bit t.emitted s)))
    ∙ map-map (λ (t : Transition). t.amount) (transition c) (chosen fired (λ k. bit (transition c k).emitted s) (length c.transitions))
