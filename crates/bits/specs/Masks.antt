-- Masks made of tests. Assumes nothing.
use Rattle.std.specs.Prelude.{ℕ, zero, suc, ◌^◌, Bool, cond, bit_or}

-- the mask of the numbers below n that pass a test
abbrev pub mask_of : (ℕ → Bool) → ℕ → ℕ
mask_of test zero = 0
mask_of test (suc n) = cond (test n) (bit_or (mask_of test n) (2 ^ n)) (mask_of test n)
