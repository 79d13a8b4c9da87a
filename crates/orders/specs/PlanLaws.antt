-- The equations of a plan keep the laws. Assumes nothing.
use Rattle.std.specs.Prelude.{◌≡◌, ℕ, zero, suc, ◌<◌, ◌≤◌, Bool, true, false, cond, List, length, get_or, ◌≢◌, bit_or, count_ones, nat_lt, slice_index_or}
use Rattle.std.proofs.Math.Path.{refl}
use mathlib.Core.HLevel.{is_prop→PathP}
use Rattle.std.proofs.Common.{⊎_elim, arith, lit≤}
use Rattle.std.proofs.Math.Bridge.{le_prop}
use Rattle.std.proofs.lemmas.Nat.{or_comm, ones-le}
use Rattle.std.specs.Int.Bits.{or_self, or_zero_l}
use Rattle.std.proofs.lemmas.Bool.{and_left, and_right, and_from, lt-ltb, le-ltb}
use Rattle.bits.specs.Bits.{bit}
use Rattle.fixpoint.specs.System.{Laws}
use Rattle.fixpoint.proofs.Evaluating.{given_beyond, given_related, given_short}
use Rattle.fixpoint.proofs.Lattice.{joins_below}
use Rattle.bits.proofs.Unions.{or_assoc, or_rises}
use Rattle.orders.specs.Plan.{door, reached, plan_equations}
use Rattle.orders.specs.Rooms.{none, only, union, size}
use Rattle.orders.specs.declared.rooms.RoomSet.{RoomSet}

-- sets with the same bits are the same
pub same_bits : (a b : RoomSet) → a.bits ≡ b.bits → a ≡ b
same_bits a b e k = record { bits = e k; ok = is_prop→PathP (λ j. e j < 65536) (λ j. le_prop) a.ok b.ok k }

union_assoc : (a b c : RoomSet) → union (union a b) c ≡ union a (union b c)
union_assoc a b c = same_bits _ _ (or_assoc a.bits b.bits c.bits)

union_comm : (a b : RoomSet) → union a b ≡ union b a
union_comm a b = same_bits _ _ (or_comm a.bits b.bits)

union_self : (a : RoomSet) → union a a ≡ a
union_self a = same_bits _ _ (or_self a.bits)

union_rises : (a b : RoomSet) → (union a b ≢ a) → size a < size (union a b)
union_rises a b d = ⊎_elim
    (λ (e : bit_or a.bits b.bits ≡ a.bits). absurd (d (same_bits _ _ e)))
    (λ (l : count_ones a.bits < count_ones (bit_or a.bits b.bits)). l)
    (or_rises a.bits b.bits)

-- a relation that unions keep
pub record Kept (R : RoomSet → RoomSet → Type 0) : Type 0 where
  pub same : (a : RoomSet) → R a a
  pub joins : (a b c d : RoomSet) → R a b → R c d → R (union a c) (union b d)

module _ (R : RoomSet → RoomSet → Type 0) (kept : Kept R) (doors : List RoomSet) where
  -- sets that are related behind the doors of room i give related sets for room i
  reached_related : (i : ℕ) (xs ys : List RoomSet) (n : ℕ) → ((j : ℕ) → j < n → door doors i j ≡ true → R (slice_index_or xs j none) (slice_index_or ys j none))
      → R (reached doors i xs n) (reached doors i ys n)
  unfolding reached
  reached_related i xs ys zero h = kept.same (only i)
  reached_related i xs ys (suc n) h = go (door doors i n) refl (reached_related i xs ys n (λ j l. h j (omega arith)))
    where
      go : (b : Bool) → door doors i n ≡ b → R (reached doors i xs n) (reached doors i ys n)
          → R (cond b (union (reached doors i xs n) (slice_index_or xs n none)) (reached doors i xs n)) (cond b (union (reached doors i ys n) (slice_index_or ys n none)) (reached doors i ys n))
      go true e r = kept.joins _ _ _ _ r (h n (omega arith) e)
      go false e r = r

  evaluated_related : (xs ys : List RoomSet) → 12 ≤ length xs → 12 ≤ length ys → (i : ℕ)
      → (i < 12 → (j : ℕ) → j < 12 → door doors i j ≡ true → R (slice_index_or xs j none) (slice_index_or ys j none))
      → R ((plan_equations doors).evaluate i xs) ((plan_equations doors).evaluate i ys)
  evaluated_related xs ys p q i h = given_related none 12 i (λ zs. reached doors i zs 12) R (kept.same none) xs ys p q (λ l. reached_related i xs ys 12 (h l))

-- the order by inclusion, and equality
inclusion_kept : Kept (λ a b. union a b ≡ b)
inclusion_kept = record { same = union_self; joins = joins_below union union_assoc union_comm }

equality_kept : Kept (λ a b. a ≡ b)
equality_kept = record { same = λ a. refl; joins = λ a b c d p q k. union (p k) (q k) }

pub plan_laws : (doors : List RoomSet) → Laws (plan_equations doors)
plan_laws doors = record {
  associative = union_assoc;
  commutative = union_comm;
  idempotent = union_self;
  neutral = λ a. same_bits _ _ (or_zero_l a.bits);
  rises = union_rises;
  bounded = λ a. ones-le 16 a.bits a.ok;
  few = lit≤ tt;
  beyond = λ i xs. given_beyond none 12 i (λ zs. reached doors i zs 12) xs;
  short = λ i xs. given_short none 12 i (λ zs. reached doors i zs 12) xs;
  within = λ i j l. and_right (nat_lt i 12) (door doors i j) (and_left (nat_lt j 12) (bit (get_or doors i none).bits j) (le-ltb j 12 l));
  monotone = λ xs ys p q h i. evaluated_related (λ a b. union a b ≡ b) inclusion_kept doors xs ys p q i (λ l j m d. h j m);
  local = λ xs ys p q i h. evaluated_related (λ a b. a ≡ b) equality_kept doors xs ys p q i
      (λ l j m d. h j (and_from (nat_lt i 12) (door doors i j) (lt-ltb i 12 l) d));
}
