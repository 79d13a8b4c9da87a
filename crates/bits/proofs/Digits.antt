-- The binary digits of a word as tests: of an or, an and, a power of two, a complement and zero. Assumes nothing.
use Rattle.std.proofs.Common.{◌≡◌, ℕ, zero, suc, ◌-◌, ◌*◌, ◌/◌, ◌%◌, ◌^◌, ◌<◌, ◌≤◌, false, not, ◌&&◌, ◌||◌, eqb, min, max, sym, ap, ◌∙◌, ⊎_elim, pow-suc, arith}
use lib.Bits.{bit_and, bit_or}
use Rattle.std.proofs.lemmas.Nat.{one_shl, pow_below, pow_pos}
use Rattle.std.proofs.lemmas.Nat.Bits.{bit_at_lowest, bit_at-suc, bit_at-zero, bit_at_and, bit_at_or, bit_at-lt, bit_at-pow_same, bit_at-pow_other, bit_at_above, same_from_bits_below}
use Rattle.std.proofs.lemmas.Bool.{cases_eq, cases_lt, eq-eqb, ne_eqb}
use Rattle.std.proofs.lemmas.Bool.Decides.{nat_tests}
use Rattle.bits.specs.Bits.{bit}

-- a digit as a test
as_test : {x y : ℕ} → x ≡ y → eqb x 1 ≡ eqb y 1
as_test e = ap (λ n. eqb n 1) e

-- the lowest digit
pub bit_low : (w : ℕ) → bit w 0 ≡ eqb (w % 2) 1
unfolding bit
bit_low w = as_test (bit_at_lowest w)

-- a digit above it is one of the half
pub bit_up : (w j : ℕ) → bit w (suc j) ≡ bit (w / 2) j
unfolding bit
bit_up w j = as_test (bit_at-suc w j)

-- zero has no digit set
pub bit_zero : (j : ℕ) → bit 0 j ≡ false
unfolding bit
bit_zero j = as_test (bit_at-zero j)

-- the or and the and of two digits, as tests
or_digits : (x y : ℕ) → x < 2 → y < 2 → eqb (max x y) 1 ≡ (eqb x 1 || eqb y 1)
or_digits x y l h = grind (arith, nat_tests)

and_digits : (x y : ℕ) → x < 2 → y < 2 → eqb (min x y) 1 ≡ (eqb x 1 && eqb y 1)
and_digits x y l h = grind (arith, nat_tests)

-- a digit of an or is set where it is set in one of the two
pub bit_of_or : (a b j : ℕ) → bit (bit_or a b) j ≡ (bit a j || bit b j)
unfolding bit
bit_of_or a b j = as_test (bit_at_or a b j) ∙ or_digits _ _ (bit_at-lt a j) (bit_at-lt b j)

-- a digit of an and is set where it is set in both
pub bit_of_and : (a b j : ℕ) → bit (bit_and a b) j ≡ (bit a j && bit b j)
unfolding bit
bit_of_and a b j = as_test (bit_at_and a b j) ∙ and_digits _ _ (bit_at-lt a j) (bit_at-lt b j)

-- a power of two has one digit set
pub bit_pow : (i j : ℕ) → bit (2 ^ i) j ≡ eqb j i
unfolding bit
bit_pow i j = ⊎_elim
    (λ (e : j ≡ i). ap (bit (2 ^ i)) e ∙ as_test (bit_at-pow_same i) ∙ sym (eq-eqb j i e))
    (λ (d : j ≡ i → ⊥). as_test (bit_at-pow_other i j d) ∙ sym (ne_eqb j i d))
    (cases_eq j i)

-- each of the k digits of a complement is the other one
pub bit_complement : (k x j : ℕ) → x < 2 ^ k → j < k → bit (2 ^ k - 1 - x) j ≡ not (bit x j)
bit_complement zero x j h l = absurd (omega arith)
bit_complement (suc k) x zero h l =
    let p = pow-suc 2 k in
    let digit : (2 ^ suc k - 1 - x) % 2 ≡ 1 - x % 2 = omega arith in
    rw (bit_low (2 ^ suc k - 1 - x), bit_low x, digit) (grind (arith, nat_tests))
bit_complement (suc k) x (suc j) h l =
    let p = pow-suc 2 k in
    let half : (2 ^ suc k - 1 - x) / 2 ≡ 2 ^ k - 1 - x / 2 = omega arith in
    rw (bit_up (2 ^ suc k - 1 - x) j, bit_up x j, half) (bit_complement k (x / 2) j (omega arith) (omega arith))

-- a word none of whose k digits is set is zero
pub none_set : (k w : ℕ) → w < 2 ^ k → ((j : ℕ) → j < k → bit w j ≡ false) → w ≡ 0
unfolding bit
none_set k w h f = same_from_bits_below k w 0 h (pow_pos k) (λ j l. let digit = bit_at-lt w j in let clear = f j l in let zero_digit = bit_at-zero j in grind (arith, nat_tests))

-- `w | 1 << i` at 64 digits
pub bit_set : (w i j : ℕ) → i < 64 → bit (bit_or w (1 * 2 ^ i % 2 ^ 64)) j ≡ (bit w j || eqb j i)
bit_set w i j h = rw (one_shl i 64 h) (bit_of_or w (2 ^ i) j ∙ ap (λ b. bit w j || b) (bit_pow i j))

-- a word of k digits has no digit set above them
pub bit_above : (k w j : ℕ) → w < 2 ^ k → k ≤ j → bit w j ≡ false
unfolding bit
bit_above k w j h l = as_test (bit_at_above w k j h l)

-- `w & !(1 << i)` at 64 digits
pub bit_clear : (w i j : ℕ) → w < 2 ^ 64 → i < 64 → bit (bit_and w (2 ^ 64 - 1 - 1 * 2 ^ i % 2 ^ 64)) j ≡ (bit w j && not (eqb j i))
bit_clear w i j b h =
    rw (one_shl i 64 h)
    (bit_of_and w (2 ^ 64 - 1 - 2 ^ i) j ∙ ⊎_elim
    (λ (l : j < 64). ap (λ b. bit w j && b) (bit_complement 64 (2 ^ i) j (pow_below i 64 h) l ∙ ap not (bit_pow i j)))
    (λ (l : 64 ≤ j). let e = bit_above 64 w j b l in grind (arith, nat_tests))
    (cases_lt j 64))
