-- Sets of numbers as the bits of a word: the union is associative, and a union that adds something has more bits set. Assumes nothing.
use Rattle.std.proofs.Common.{◌≡◌, ℕ, ◌+◌, ◌/◌, ◌%◌, ◌<◌, max, ◌⊎◌, ap, ◌∙◌, inl, inr, ⊎_elim, arith, lit<}
use lib.Arith.{bin_ind}
use lib.Bits.{bit_or, or_step}
use lib.Count.{ones, ones-le, ones_step}
use Rattle.std.proofs.lemmas.Bool.{cases_eq}
use Rattle.std.proofs.lemmas.Nat.{zero_from_ones}
use Rattle.std.proofs.lemmas.Nat.Bits.{bit_at_or, same_from_bits}

-- the halves and the last digit of a union
or_half : (a b : ℕ) → bit_or a b / 2 ≡ bit_or (a / 2) (b / 2)
or_half a b = omega (arith, or_step a b)

or_digit : (a b : ℕ) → bit_or a b % 2 ≡ max (a % 2) (b % 2)
or_digit a b = omega (arith, or_step a b)

by_digits : (a b : ℕ) → a / 2 ≡ b / 2 → a % 2 ≡ b % 2 → a ≡ b
by_digits a b h l = omega arith

pub or_assoc : (a b c : ℕ) → bit_or (bit_or a b) c ≡ bit_or a (bit_or b c)
or_assoc a b c = same_from_bits (bit_or (bit_or a b) c) (bit_or a (bit_or b c))
    (λ i. omega (arith, bit_at_or (bit_or a b) c i, bit_at_or a b i, bit_at_or a (bit_or b c) i, bit_at_or b c i))

-- how many bits a union has set, by halves and last digits
ones_or : (a b : ℕ) → ones (bit_or a b) ≡ max (a % 2) (b % 2) + ones (bit_or (a / 2) (b / 2))
ones_or a b = ones_step (bit_or a b) ∙ (λ k. or_digit a b k + ones (or_half a b k))

-- a number is 0, or has a bit set
ones_pos : (n : ℕ) → (n ≡ 0) ⊎ (0 < ones n)
ones_pos n = ⊎_elim (λ (e : ones n ≡ 0). inl (zero_from_ones n e)) (λ (d : ones n ≡ 0 → ⊥). inr (omega arith)) (cases_eq (ones n) 0)

-- a union is its left side, or has more bits set
pub or_rises : (a b : ℕ) → (bit_or a b ≡ a) ⊎ (ones a < ones (bit_or a b))
or_rises = bin_ind (λ n. (b : ℕ) → (bit_or n b ≡ n) ⊎ (ones n < ones (bit_or n b)))
    (λ b. ⊎_elim (λ (e : b ≡ 0). inl e) (λ (h : 0 < ones b). inr (omega (arith, ones-le 0 0 (lit< tt)))) (ones_pos b))
    (λ n more b. ⊎_elim
    (λ (h : bit_or (n / 2) (b / 2) ≡ n / 2). ⊎_elim
    (λ (e : max (n % 2) (b % 2) ≡ n % 2). inl (by_digits (bit_or n b) n (or_half n b ∙ h) (or_digit n b ∙ e)))
    (λ (d : max (n % 2) (b % 2) ≡ n % 2 → ⊥). inr (omega (arith, ones_or n b, ones_step n, ap ones h)))
    (cases_eq (max (n % 2) (b % 2)) (n % 2)))
    (λ (h : ones (n / 2) < ones (bit_or (n / 2) (b / 2))). inr (omega (arith, ones_or n b, ones_step n)))
    (more (b / 2)))
