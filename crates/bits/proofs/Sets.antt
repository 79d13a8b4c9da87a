-- Sets with the same bits are the same; the laws of the union; what a union and a number alone have. Assumes nothing.
use Rattle.std.proofs.Common.{◌≡◌, ℕ, ◌+◌, ◌-◌, ◌%◌, ◌^◌, ◌<◌, ◌≤◌, ◌≢◌, Bool, true, mod-eq_of_lt, refl, ⊎_elim, ap, ◌∙◌, arith}
use mathlib.Core.HLevel.{is_prop→PathP}
use Rattle.std.proofs.Math.Bridge.{le_prop}
use Rattle.std.specs.Int.Bits.{or_self, or_zero_l}
use Rattle.std.proofs.Math.Nat.{mul-mod_left}
use Rattle.std.proofs.lemmas.Nat.{or_comm, ones-le, pow-add, pow_below}
use Rattle.std.proofs.lemmas.Bool.{eq-eqb, or_left, or_right}
use Rattle.bits.specs.Bits.{bit}
use Rattle.bits.proofs.Digits.{bit_of_or, bit_pow}
use Rattle.bits.proofs.Unions.{or_assoc, or_rises}
use Rattle.bits.specs.Set.{has, none, only_if, union, size}
use Rattle.bits.specs.declared.set.NumberSet.{NumberSet}

-- sets with the same bits are the same
pub same_bits : (a b : NumberSet) → a.bits ≡ b.bits → a ≡ b
same_bits a b e k = record { bits = e k; ok = is_prop→PathP (λ j. e j < 2 ^ 32) (λ j. le_prop) a.ok b.ok k }

pub union_assoc : (a b c : NumberSet) → union (union a b) c ≡ union a (union b c)
union_assoc a b c = same_bits _ _ (or_assoc a.bits b.bits c.bits)

pub union_comm : (a b : NumberSet) → union a b ≡ union b a
union_comm a b = same_bits _ _ (or_comm a.bits b.bits)

pub union_self : (a : NumberSet) → union a a ≡ a
union_self a = same_bits _ _ (or_self a.bits)

pub union_none : (a : NumberSet) → union none a ≡ a
union_none a = same_bits _ _ (or_zero_l a.bits)

-- a union that differs from its left side has more numbers
pub union_rises : (a b : NumberSet) → (union a b ≢ a) → size a < size (union a b)
union_rises a b d = ⊎_elim (λ e. absurd (d (same_bits _ _ e))) (λ l. l) (or_rises a.bits b.bits)

-- a set has at most 32 numbers
pub size_bounded : (a : NumberSet) → size a ≤ 32
size_bounded a = ones-le 32 a.bits a.ok

-- a power of two from 2 ^ 32 on leaves nothing in 32 digits
pub high_power : (i : ℕ) → 32 ≤ i → 2 ^ i % 2 ^ 32 ≡ 0
high_power i l =
    let whole : i ≡ i - 32 + 32 = omega arith in
    ap (λ n. 2 ^ n % 2 ^ 32) whole ∙ ap (λ n. n % 2 ^ 32) (pow-add 2 (i - 32) 32) ∙ mul-mod_left (2 ^ (i - 32)) (2 ^ 32)

-- a union has what its left side has
pub has_left : (a b : NumberSet) (i : ℕ) → has a i ≡ true → has (union a b) i ≡ true
has_left a b i e = bit_of_or a.bits b.bits i ∙ or_left (has a i) (has b i) e

-- and what its right side has
pub has_right : (a b : NumberSet) (i : ℕ) → has b i ≡ true → has (union a b) i ≡ true
has_right a b i e = bit_of_or a.bits b.bits i ∙ or_right (has a i) (has b i) e

-- a number below 32 alone, where the test holds
pub has_only_if : (test : Bool) (i : ℕ) → i < 32 → test ≡ true → has (only_if test i) i ≡ true
has_only_if test i l e = ap (λ b. has (only_if b i) i) e ∙ ap (λ w. bit w i) (mod-eq_of_lt (pow_below i 32 l)) ∙ bit_pow i i ∙ eq-eqb i i refl
