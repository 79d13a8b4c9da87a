-- What is read of the sets of an area. Assumes nothing.
use Rattle.std.proofs.Common.{◌≡◌, ℕ, ◌<◌, ◌≤◌, Bool, false, ◌&&◌, ltb, List, length, get_or, Some, None, Option, unwrap_or, sym, ap, ◌∙◌, ⊎_elim, arith}
use Rattle.std.specs.Option.{MatchOption, option_map}
use Rattle.std.proofs.lemmas.List.{get_or_past}
use Rattle.std.proofs.lemmas.Bool.{cases_lt}
use Rattle.std.proofs.lemmas.Bool.Decides.{nat_tests}
use Rattle.bits.proofs.Digits.{bit_zero}
pub use Rattle.bits.proofs.Masks.{gathered_no, gathered_yes}
use Rattle.bits.specs.Set.{has, none}
use Rattle.bits.specs.declared.set.NumberSet.{NumberSet as StateSet}

-- a test on the set that is read, and false where there is none
pub read_has : {A : Type 0} (set : A → StateSet) (o : Option A) (s : ℕ) {P : A → Type 0} {r : Bool} → MatchOption o (r ≡ false) P → ((a : A) → P a → r ≡ has (set a) s)
    → r ≡ has (unwrap_or (option_map set o) none) s
read_has set None s h f = h ∙ sym (bit_zero s)
read_has set (Some a) s h f = f a h

-- none is left
pub gathered_all : (sets : List StateSet) (n j : ℕ) {old : Bool} → length sets ≤ n → old ≡ (ltb j n && has (get_or sets j none) 0) → old ≡ has (get_or sets j none) 0
gathered_all sets n j l before = ⊎_elim
    (λ (h : j < n). grind (arith, nat_tests))
    (λ (h : n ≤ j). let past = ap (λ a. has a 0) (get_or_past sets j none (omega arith)) ∙ bit_zero 0 in grind (arith, nat_tests))
    (cases_lt j n)
