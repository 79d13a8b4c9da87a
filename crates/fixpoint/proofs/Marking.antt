-- The smallest number of a set of marks. Assumes nothing.
use Rattle.std.proofs.Common.{◌≡◌, ℕ, ◌+◌, ◌-◌, ◌<◌, ◌≤◌, true, false, ⊎_elim, arith}
use native.Mathlib.Nat.{add-sub_cancel_left}
use Rattle.std.proofs.lemmas.Bool.{cases_lt}
use Rattle.std.proofs.lemmas.Bool.Decides.{nat_tests}
use Rattle.bits.specs.Bits.{bit}
use Rattle.fixpoint.specs.Marks.{marked}
use Rattle.fixpoint.specs.declared.marks.Marks.{Marks}
use Rattle.bits.proofs.Digits.{bit_zero}

-- only numbers below 128 are marked
pub marked_few : (m : Marks) (j : ℕ) → marked m j ≡ true → j < 128
marked_few m j h = grind (arith, nat_tests)

-- nothing is marked in two words that are zero
pub marked_none : (m : Marks) → m.low ≡ 0 → m.high ≡ 0 → (j : ℕ) → marked m j ≡ false
marked_none m l h j = let z = bit_zero j in let y = bit_zero (j - 64) in rw (l, h) (grind (arith, nat_tests))

-- the lowest bit of the low word is the smallest marked number
pub smallest_low : (m : Marks) (t : ℕ) → t < 64 → bit m.low t ≡ true → ((j : ℕ) → j < t → bit m.low j ≡ false) → (marked m t ≡ true) × ((j : ℕ) → j < t → marked m j ≡ false)
smallest_low m t h set below = (grind (arith, nat_tests), λ j l. let b = below j l in grind (arith, nat_tests))

-- where the low word has no bit it is the lowest bit of the high word
pub smallest_high : (m : Marks) (t : ℕ) → ((j : ℕ) → bit m.low j ≡ false) → t < 64 → bit m.high t ≡ true → ((j : ℕ) → j < t → bit m.high j ≡ false) → (marked m (64 + t) ≡ true) × ((j : ℕ) → j < 64 + t → marked m j ≡ false)
smallest_high m t none h set below =
    let s : bit m.high (64 + t - 64) ≡ true = rw (add-sub_cancel_left 64 t) set in (
      grind (arith, nat_tests),
      λ j l. let z = none j in ⊎_elim
          (λ (k : j < 64). grind (arith, nat_tests))
          (λ (k : 64 ≤ j). let b = below (j - 64) (omega arith) in grind (arith, nat_tests))
          (cases_lt j 64),
    )
