-- Words made bit by bit. Assumes nothing.
use Rattle.std.proofs.Common.{◌≡◌, ℕ, ◌+◌, ◌<◌, ◌≤◌, Bool, true, false, ◌&&◌, ◌||◌, eqb, ltb, List, length, get_or, ap, ◌∙◌, ⊎_elim, arith}
use Rattle.std.proofs.lemmas.Bool.{cases_eq, cases_lt}
use Rattle.std.proofs.lemmas.Bool.Decides.{nat_tests}
use Rattle.std.proofs.lemmas.List.{get_or_past}
use Rattle.bits.specs.Bits.{bit}
use Rattle.bits.proofs.Digits.{bit_zero}

-- no number yet of those that pass a test
pub none_yet : (test : ℕ → Bool) (k : ℕ) → bit 0 k ≡ (ltb k 0 && test k)
none_yet test k = let none = bit_zero k in grind (arith, nat_tests)

-- one number more of them
pub one_more : (test : ℕ → Bool) (old new on : Bool) (s k : ℕ) → on ≡ test s → old ≡ (ltb k s && test k) → new ≡ (old || (on && eqb k s)) → new ≡ (ltb k (s + 1) && test k)
one_more test old new on s k is before after = ⊎_elim
    (λ (e : k ≡ s). let here : test k ≡ test s = ap test e in grind (arith, nat_tests))
    (λ (d : k ≡ s → ⊥). grind (arith, nat_tests))
    (cases_eq k s)

-- the same for a set of numbers below 128, where m is the next number: one that passes is added, and one that does not is left out
module _ (test : ℕ → Bool) (old : Bool) (n m j : ℕ) (next : m ≡ n + 1) (before : old ≡ (ltb j n && test j)) where
  pub one_added : (new : Bool) (k : ℕ) → k ≡ n → n < 128 → test n ≡ true → new ≡ (old || (eqb j k && ltb k 128)) → new ≡ (ltb j m && test j)
  one_added new k at small passes after = ⊎_elim
      (λ (e : j ≡ n). let here : test j ≡ test n = ap test e in grind (arith, nat_tests))
      (λ (d : j ≡ n → ⊥). grind (arith, nat_tests))
      (cases_eq j n)

  pub none_added : test n ≡ false → old ≡ (ltb j m && test j)
  none_added fails = ⊎_elim
      (λ (e : j ≡ n). let here : test j ≡ test n = ap test e in grind (arith, nat_tests))
      (λ (d : j ≡ n → ⊥). grind (arith, nat_tests))
      (cases_eq j n)

-- all of them, where the value beyond the end passes no test
pub all_read : {A : Type 0} (p : A → Bool) (d : A) (xs : List A) (n k : ℕ) → p d ≡ false → n ≡ length xs → (ltb k n && p (get_or xs k d)) ≡ p (get_or xs k d)
all_read p d xs n k none all = ⊎_elim
    (λ (l : k < n). grind (arith, nat_tests))
    (λ (l : n ≤ k). let past : p (get_or xs k d) ≡ false = ap p (get_or_past xs k d (omega arith)) ∙ none in grind (arith, nat_tests))
    (cases_lt k n)
