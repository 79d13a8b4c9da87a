-- The numbers in a mask, and tests on a list. Assumes nothing.
use Rattle.std.specs.Prelude.{ℕ, Bool, true, false, ◌&&◌, ◌||◌, List, [], ◌∷◌, filter}
use Rattle.std.specs.List.{range_with_len}
use Rattle.bits.specs.Bits.{bit}

-- the numbers whose bits are set in a mask of 64 bits
unfoldable pub members : ℕ → List ℕ
members mask = filter (bit mask) (range_with_len 0 64)

-- each of a list passes a test, one of a list does
abbrev pub every : {A : Type 0} → (A → Bool) → List A → Bool
every p [] = true
every p (x ∷ xs) = p x && every p xs

abbrev pub some : {A : Type 0} → (A → Bool) → List A → Bool
some p [] = false
some p (x ∷ xs) = p x || some p xs
