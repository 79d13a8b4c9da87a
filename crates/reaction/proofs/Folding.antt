-- The fold of a combining kind does not depend on the order of the amounts. Assumes nothing.
use Rattle.std.proofs.Common.{◌≡◌, ℕ, zero, suc, ◌+◌, ◌<◌, ◌≤◌, List, [], ◌∷◌, length, get_or, take, set, fold, sym, refl, ap, ◌∙◌, arith}
use Rattle.std.specs.List.Sorted.{IsPermutation}
use Rattle.std.specs.List.{swap}
use Rattle.std.proofs.lemmas.List.Sorted.{IsPermutation-keeps}
use Rattle.std.proofs.lemmas.List.{take_all}
use Rattle.std.proofs.lemmas.List.Sums.{fold_more}
use Rattle.reaction.specs.Combine.{Combination, Lawful, combined}

-- one amount more
pub combined_more : {V : Type 0} (k : Combination V) (xs : List ℕ) (i : ℕ) {v s w : V} → i < length xs
    → v ≡ combined k (take i xs) → s ≡ k.step (get_or xs i 0) → w ≡ k.together v s → w ≡ combined k (take (i + 1) xs)
combined_more k xs i h before here now =
    now ∙ (λ j. k.together (before j) (here j)) ∙ sym (fold_more (λ v x. k.together v (k.step x)) k.neutral xs i 0 h)

-- all amounts
pub combined_all : {V : Type 0} (k : Combination V) (xs : List ℕ) (i : ℕ) {v : V} → length xs ≤ i → v ≡ combined k (take i xs) → v ≡ combined k xs
combined_all k xs i h before = before ∙ ap (combined k) (take_all i xs h)

module _ {V : Type 0} (k : Combination V) (laws : Lawful k) where
  -- the amounts from the last to the first
  value : List ℕ → V
  value [] = k.neutral
  value (x ∷ xs) = k.together (k.step x) (value xs)

  -- what comes first may come second
  ahead : (a b c : V) → k.together a (k.together b c) ≡ k.together b (k.together a c)
  ahead a b c = sym (laws.associative a b c) ∙ ap (λ v. k.together v c) (laws.commutative a b) ∙ laws.associative b a c

  -- the fold from any value
  folded_value : (a : V) (xs : List ℕ) → fold (λ v x. k.together v (k.step x)) a xs ≡ k.together a (value xs)
  unfolding value
  folded_value a [] = sym (laws.neutral_left a) ∙ laws.commutative k.neutral a
  folded_value a (x ∷ xs) = folded_value (k.together a (k.step x)) xs ∙ laws.associative a (k.step x) (value xs)

  combined_value : (xs : List ℕ) → combined k xs ≡ value xs
  combined_value xs = folded_value k.neutral xs ∙ laws.neutral_left (value xs)

  -- one amount put in the place of another, which comes to the front
  replaced : (xs : List ℕ) (i y d : ℕ) → i < length xs → k.together (k.step (get_or xs i d)) (value (set xs i y)) ≡ k.together (k.step y) (value xs)
  unfolding value
  replaced [] i y d h = absurd (omega arith)
  replaced (x ∷ xs) zero y d h = ahead (k.step x) (k.step y) (value xs)
  replaced (x ∷ xs) (suc i) y d h =
      ahead (k.step (get_or xs i d)) (k.step x) (value (set xs i y))
      ∙ ap (k.together (k.step x)) (replaced xs i y d (omega arith))
      ∙ ahead (k.step x) (k.step y) (value xs)

  -- two amounts in each other's place
  swapped : (xs : List ℕ) (i j d : ℕ) → i < length xs → j < length xs → value (set (set xs i (get_or xs j d)) j (get_or xs i d)) ≡ value xs
  unfolding value
  swapped [] i j d h l = absurd (omega arith)
  swapped (x ∷ xs) zero zero d h l = refl
  swapped (x ∷ xs) zero (suc j) d h l = replaced xs j x d (omega arith)
  swapped (x ∷ xs) (suc i) zero d h l = replaced xs i x d (omega arith)
  swapped (x ∷ xs) (suc i) (suc j) d h l = ap (k.together (k.step x)) (swapped xs i j d (omega arith) (omega arith))

  exchanged_value : (xs : List ℕ) (i j : ℕ) → i < length xs → j < length xs → value (swap xs i j) ≡ value xs
  exchanged_value [] i j h l = refl
  exchanged_value (x ∷ xs) i j h l = swapped (x ∷ xs) i j x h l

  -- any order of the amounts gives the same
  pub combined_shuffled : (xs ys : List ℕ) → IsPermutation xs ys → combined k xs ≡ combined k ys
  combined_shuffled xs ys h =
      combined_value xs ∙ sym (IsPermutation-keeps xs (λ l. value l ≡ value xs) refl (λ l i j p q e. exchanged_value l i j p q ∙ e) ys h) ∙ sym (combined_value ys)
