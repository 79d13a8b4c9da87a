-- The bits of a mask that is made of a test; words with the same bits are equal. Assumes nothing.
use Rattle.std.proofs.Common.{◌≡◌, ℕ, zero, suc, ◌+◌, ◌^◌, ◌<◌, Bool, true, false, cond, ◌&&◌, ◌||◌, eqb, ltb, ◌⊎◌, sym, refl, ap, ◌∙◌, inl, inr, ⊎_elim, pow-suc, arith}
use lib.Bits.{bit_or, or_lt}
use lib.Pow.{pow-lt}
use Rattle.std.proofs.lemmas.Bool.{and_left, cases_Bool, cases_eq, cond-false, cond-true, le-ltb}
use Rattle.std.proofs.lemmas.Bool.Decides.{nat_tests}
use Rattle.std.proofs.lemmas.Nat.Bits.{bit_at-lt, same_from_bits_below}
use Rattle.bits.specs.Bits.{bit}
use Rattle.bits.specs.Masks.{mask_of}
use Rattle.bits.proofs.Digits.{bit_of_or, bit_pow, bit_zero}

-- words of k digits with the same digits are equal
pub same_word : (k a b : ℕ) → a < 2 ^ k → b < 2 ^ k → ((j : ℕ) → j < k → bit a j ≡ bit b j) → a ≡ b
unfolding bit
same_word k a b h l f = same_from_bits_below k a b h l (λ j m. let x = bit_at-lt a j in let y = bit_at-lt b j in let e = f j m in grind (arith, nat_tests))

-- the mask has no bit from n on
pub mask_small : (test : ℕ → Bool) (n : ℕ) → mask_of test n < 2 ^ n
mask_small test zero = omega arith
mask_small test (suc n) =
    let p = pow-suc 2 n in
    let before = mask_small test n in
    let one : 2 ^ n < 2 ^ suc n = pow-lt (omega arith) in
    elim (test n) as (λ b. cond b (bit_or (mask_of test n) (2 ^ n)) (mask_of test n) < 2 ^ suc n) [
      | true ↦ or_lt (suc n) (mask_of test n) (2 ^ n) (omega arith) one
      | false ↦ omega arith
    ]

-- one number more passes, or does not
passes_more : (test : ℕ → Bool) (n j : ℕ) → test n ≡ true → ((ltb j n && test j) || eqb j n) ≡ (ltb j (suc n) && test j)
passes_more test n j e = ⊎_elim
    (λ (d : j ≡ n). let q : test j ≡ true = ap test d ∙ e in grind (arith, nat_tests))
    (λ (d : j ≡ n → ⊥). grind (arith, nat_tests))
    (cases_eq j n)

passes_less : (test : ℕ → Bool) (n j : ℕ) → test n ≡ false → (ltb j n && test j) ≡ (ltb j (suc n) && test j)
passes_less test n j e = ⊎_elim
    (λ (d : j ≡ n). let q : test j ≡ false = ap test d ∙ e in grind (arith, nat_tests))
    (λ (d : j ≡ n → ⊥). grind (arith, nat_tests))
    (cases_eq j n)

-- the bits of the numbers that pass, and no other
pub bit_mask : (test : ℕ → Bool) (n j : ℕ) → bit (mask_of test n) j ≡ (ltb j n && test j)
bit_mask test zero j = bit_zero j ∙ sym (and_left (ltb j 0) (test j) (le-ltb j 0 (omega arith)))
bit_mask test (suc n) j = ⊎_elim
    (λ (e : test n ≡ true). ap (λ w. bit w j) (cond-true (test n) (bit_or (mask_of test n) (2 ^ n)) (mask_of test n) e)
    ∙ bit_of_or (mask_of test n) (2 ^ n) j
    ∙ (λ k. bit_mask test n j k || bit_pow n j k)
    ∙ passes_more test n j e)
    (λ (e : test n ≡ false). ap (λ w. bit w j) (cond-false (test n) (bit_or (mask_of test n) (2 ^ n)) (mask_of test n) e) ∙ bit_mask test n j ∙ passes_less test n j e)
    (cases_Bool (test n))

-- tests that agree below n make the same mask
pub mask_same : (p q : ℕ → Bool) (n : ℕ) → ((j : ℕ) → j < n → p j ≡ q j) → mask_of p n ≡ mask_of q n
mask_same p q zero h = refl
mask_same p q (suc n) h =
    let before = mask_same p q n (λ j l. h j (omega arith)) in
    let here = h n (omega arith) in
    λ k. cond (here k) (bit_or (before k) (2 ^ n)) (before k)

-- the mask is zero, or a number passes
pub mask_cases : (test : ℕ → Bool) (n : ℕ) → (mask_of test n ≡ 0) ⊎ ((s : ℕ) × (s < n) × (test s ≡ true))
mask_cases test zero = inl refl
mask_cases test (suc n) = ⊎_elim
    (λ (e : test n ≡ true). inr (n, omega arith, e))
    (λ (e : test n ≡ false). ⊎_elim
    (λ (z : mask_of test n ≡ 0). inl (cond-false (test n) (bit_or (mask_of test n) (2 ^ n)) (mask_of test n) e ∙ z))
    (λ (p : (s : ℕ) × (s < n) × (test s ≡ true)). inr (p.0, omega (arith, p.1), p.2))
    (mask_cases test n))
    (cases_Bool (test n))

-- the bits of the numbers below n that pass: number n does too
pub gathered_yes : (test : ℕ → Bool) (n j : ℕ) {old new : Bool} → n < 64 → test n ≡ true → old ≡ (ltb j n && test j) → new ≡ (old || (ltb n 64 && eqb j n)) → new ≡ (ltb j (n + 1) && test j)
gathered_yes test n j few passes before after = ⊎_elim
    (λ (e : j ≡ n). let here = ap test e ∙ passes in grind (arith, nat_tests))
    (λ (d : j ≡ n → ⊥). grind (arith, nat_tests))
    (cases_eq j n)

-- it does not
pub gathered_no : (test : ℕ → Bool) (n j : ℕ) {old : Bool} → test n ≡ false → old ≡ (ltb j n && test j) → old ≡ (ltb j (n + 1) && test j)
gathered_no test n j fails before = ⊎_elim
    (λ (e : j ≡ n). let here = ap test e ∙ fails in grind (arith, nat_tests))
    (λ (d : j ≡ n → ⊥). grind (arith, nat_tests))
    (cases_eq j n)
