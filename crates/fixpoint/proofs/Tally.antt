-- How many numbers below n a set has. Assumes nothing.
use Rattle.std.proofs.Common.{◌≡◌, ℕ, zero, suc, ◌+◌, ◌<◌, ◌≤◌, Bool, true, false, cond, eqb, sym, refl, ap, ◌∙◌, ⊎_elim, arith}
use Rattle.std.proofs.lemmas.Bool.{cases_Bool, cases_eq, eq-eqb, ne_eqb, or_right}
use Rattle.std.proofs.lemmas.Bool.Decides.{nat_tests}
use Rattle.fixpoint.specs.Worklist.{tally, with_number, without_number}

-- one more number: it counts where it is in the set
pub tally_yes : (p : ℕ → Bool) (n : ℕ) → p n ≡ true → tally p (suc n) ≡ tally p n + 1
unfolding tally
tally_yes p n h = rw h

pub tally_no : (p : ℕ → Bool) (n : ℕ) → p n ≡ false → tally p (suc n) ≡ tally p n
unfolding tally
tally_no p n h = rw h

pub tally_le : (p : ℕ → Bool) (n : ℕ) → tally p n ≤ n
unfolding tally
tally_le p zero = omega arith
tally_le p (suc n) = let h = tally_le p n in
    elim (p n) as (λ b. cond b (tally p n + 1) (tally p n) ≤ suc n) [ true ↦ omega arith | false ↦ omega arith ]

pub tally_same : (p q : ℕ → Bool) (n : ℕ) → ((j : ℕ) → j < n → q j ≡ p j) → tally q n ≡ tally p n
unfolding tally
tally_same p q zero h = refl
tally_same p q (suc n) h =
    let e = tally_same p q n (λ j l. h j (omega arith)) in
    rw (h n (omega arith), e)

pub tally_none : (p : ℕ → Bool) (n : ℕ) → ((j : ℕ) → p j ≡ false) → tally p n ≡ 0
unfolding tally
tally_none p zero h = refl
tally_none p (suc n) h = rw (h n) (tally_none p n h)

with_other : (p q : ℕ → Bool) (i j : ℕ) → q j ≡ with_number i p j → (j ≡ i → ⊥) → q j ≡ p j
with_other p q i j e h = grind (arith, nat_tests)

with_itself : (p q : ℕ → Bool) (i : ℕ) → q i ≡ with_number i p i → q i ≡ true
with_itself p q i e = e ∙ or_right (p i) (eqb i i) (eq-eqb i i refl)

-- two sets that agree at n count alike there
step_same : (p q : ℕ → Bool) (n d : ℕ) → q n ≡ p n → tally q n ≡ tally p n + d → tally q (suc n) ≡ tally p (suc n) + d
step_same p q n d e t = ⊎_elim
    (λ (k : p n ≡ true). omega (arith, tally_yes q n (e ∙ k), tally_yes p n k))
    (λ (k : p n ≡ false). omega (arith, tally_no q n (e ∙ k), tally_no p n k))
    (cases_Bool (p n))

-- a number that was not in the set makes one more
pub tally_with : (p q : ℕ → Bool) (i n : ℕ) → i < n → p i ≡ false → ((j : ℕ) → q j ≡ with_number i p j) → tally q n ≡ tally p n + 1
tally_with p q i zero l h e = absurd (omega arith)
tally_with p q i (suc n) l h e =
    let more : i < n → tally q n ≡ tally p n + 1 = λ k. tally_with p q i n k h e in
    ⊎_elim
    (λ (d : n ≡ i).
    let below : tally q n ≡ tally p n = tally_same p q n (λ j k. with_other p q i j (e j) (omega arith)) in
    omega (arith, tally_yes q n (ap q d ∙ with_itself p q i (e i)), tally_no p n (ap p d ∙ h)))
    (λ (d : n ≡ i → ⊥). step_same p q n 1 (with_other p q i n (e n) d) (more (omega arith)))
    (cases_eq n i)

without_back : (p q : ℕ → Bool) (i j : ℕ) → p i ≡ true → q j ≡ without_number i p j → p j ≡ with_number i q j
without_back p q i j h e = ⊎_elim
    (λ (d : j ≡ i). ap p d ∙ h ∙ sym (or_right (q j) (eqb j i) (eq-eqb j i d)))
    (λ (d : j ≡ i → ⊥). let z = ne_eqb j i d in grind (arith, nat_tests))
    (cases_eq j i)

without_itself : (p q : ℕ → Bool) (i : ℕ) → q i ≡ without_number i p i → q i ≡ false
without_itself p q i e = let z = eq-eqb i i refl in grind (arith, nat_tests)

-- a number that was in the set makes one less
pub tally_without : (p q : ℕ → Bool) (i n : ℕ) → i < n → p i ≡ true → ((j : ℕ) → q j ≡ without_number i p j) → tally q n + 1 ≡ tally p n
tally_without p q i n l h e = sym (tally_with q p i n l (without_itself p q i (e i)) (λ j. without_back p q i j h (e j)))

-- a set that lacks a number below n has fewer than n
pub tally_room : (p : ℕ → Bool) (i n : ℕ) → i < n → p i ≡ false → tally p n < n
tally_room p i n l h =
    let e = tally_with p (with_number i p) i n l h (λ j. refl) in
    omega (arith, tally_le (with_number i p) n)
