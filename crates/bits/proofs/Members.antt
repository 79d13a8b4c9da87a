-- Masks by their bits, and tests on all the numbers of a mask by operations on words. Assumes nothing.
use Rattle.std.proofs.Common.{◌≡◌, ℕ, zero, suc, ◌-◌, ◌/◌, ◌^◌, ◌<◌, ◌≤◌, Bool, true, false, cond, not, ◌&&◌, ◌||◌, eqb, ltb, List, [], ◌∷◌, ◌++◌, map, get_or, Decides, filter, sym, refl, ap, ◌∙◌, ⊎_elim, pow-suc, arith}
use mathlib.Core.Bool.{not-not, and_assoc, or_assoc}
use lib.Bits.{bit_and}
use Rattle.std.specs.List.{range_with_len, AllByRecursion}
use Rattle.std.proofs.lemmas.List.FromFn.{length-range_with_len, get_or-range_with_len}
use Rattle.std.proofs.ByRecursion.{All-get_or, All-from_get_or, kept_by_passes, Decides-by_and}
use Rattle.std.proofs.lemmas.Bool.{and_from, and_parts, both_ways, cases_Bool, cases_lt, not-true}
use Rattle.std.proofs.lemmas.Bool.Decides.{Decides-eqb, Decides-like, Decides-ltb, same_from_decides}
use Rattle.bits.specs.Bits.{bit}
use Rattle.bits.specs.Members.{members, every, some}
use Rattle.bits.proofs.Digits.{bit_above, bit_of_and, bit_complement, bit_up, bit_zero, none_set}

-- two to the power of a number is above that number
below_own_power : (m : ℕ) → m < 2 ^ m
below_own_power zero = omega arith
below_own_power (suc m) = omega (arith, below_own_power m, pow-suc 2 m)

-- a mask with no bit set at all is zero
all_clear : (m : ℕ) → ((s : ℕ) → bit m s ≡ true → ⊥) → m ≡ 0
all_clear m f = none_set m m (below_own_power m) (λ s l. ⊎_elim (λ (e : bit m s ≡ true). absurd (f s e)) (λ (e : bit m s ≡ false). e) (cases_Bool (bit m s)))

-- the set bits of a mask below 2 ^ n are below n
bits_below : (n m : ℕ) → m < 2 ^ n → (s : ℕ) → bit m s ≡ true → s < n
bits_below n m h s e = ⊎_elim (λ (l : s < n). l) (λ (l : n ≤ s). absurd (both_ways (bit m s) (bit_above n m s h l) e)) (cases_lt s n)

-- a mask whose set bits are below n is below 2 ^ n
mask_below : (n m : ℕ) → ((s : ℕ) → bit m s ≡ true → s < n) → m < 2 ^ n
mask_below zero m f = let e = all_clear m (λ s h. omega (arith, f s h)) in omega arith
mask_below (suc n) m f =
    let p = pow-suc 2 n in
    let half : m / 2 < 2 ^ n = mask_below n (m / 2) (λ s h. omega (arith, f (suc s) (bit_up m s ∙ h))) in
    omega arith

-- a mask is below 2 ^ n exactly if each of its set bits is below n
pub mask_decides : (n m : ℕ) → Decides (ltb m (2 ^ n)) ((s : ℕ) → bit m s ≡ true → s < n)
mask_decides n m = Decides-like (ltb m (2 ^ n)) (bits_below n m) (mask_below n m) (Decides-ltb m (2 ^ n))

-- where the and of two masks is zero, no bit is set in both
none_common : (a b : ℕ) → bit_and a b ≡ 0 → (s : ℕ) → bit a s ≡ true → bit b s ≡ true → ⊥
none_common a b z s h l =
    both_ways (bit (bit_and a b) s) (ap (λ m. bit m s) z ∙ bit_zero s) (bit_of_and a b s ∙ and_from (bit a s) (bit b s) h l)

-- where no bit is set in both, the and is zero
and_zero : (a b : ℕ) → ((s : ℕ) → bit a s ≡ true → bit b s ≡ true → ⊥) → bit_and a b ≡ 0
and_zero a b f = all_clear (bit_and a b) (λ s e. let h = and_parts (bit a s) (bit b s) (sym (bit_of_and a b s) ∙ e) in f s h.0 h.1)

-- the and of two masks is zero exactly if no bit is set in both
pub apart_decides : (a b : ℕ) → Decides (eqb (bit_and a b) 0) ((s : ℕ) → bit a s ≡ true → bit b s ≡ true → ⊥)
apart_decides a b = Decides-like (eqb (bit_and a b) 0) (none_common a b) (and_zero a b) (Decides-eqb (bit_and a b) 0)

-- the bits of a mask's members are set
pub members_set : (mask : ℕ) → AllByRecursion (λ s. bit mask s ≡ true) (members mask)
unfolding members
members_set mask = kept_by_passes (bit mask) (range_with_len 0 64)

-- every element of two lists in a row passes
pub every_append : {A : Type 0} (p : A → Bool) (xs ys : List A) → every p (xs ++ ys) ≡ (every p xs && every p ys)
every_append p [] ys = refl
every_append p (x ∷ xs) ys = ap (λ b. p x && b) (every_append p xs ys) ∙ sym (and_assoc (p x) (every p xs) (every p ys))

-- one element of two lists in a row passes
pub some_append : {A : Type 0} (p : A → Bool) (xs ys : List A) → some p (xs ++ ys) ≡ (some p xs || some p ys)
some_append p [] ys = refl
some_append p (x ∷ xs) ys = ap (λ b. p x || b) (some_append p xs ys) ∙ sym (or_assoc (p x) (some p xs) (some p ys))

-- every image of a list passes
pub every_map : {A B : Type 0} (p : B → Bool) (f : A → B) (xs : List A) → every p (map f xs) ≡ every (λ x. p (f x)) xs
every_map p f [] = refl
every_map p f (x ∷ xs) = ap (λ b. p (f x) && b) (every_map p f xs)

-- one image of a list passes
pub some_map : {A B : Type 0} (p : B → Bool) (f : A → B) (xs : List A) → some p (map f xs) ≡ some (λ x. p (f x)) xs
some_map p f [] = refl
some_map p f (x ∷ xs) = ap (λ b. p (f x) || b) (some_map p f xs)

-- every element passes a weaker test
pub every_weaker : {A : Type 0} (p q : A → Bool) → ((x : A) → p x ≡ true → q x ≡ true) → (xs : List A) → every p xs ≡ true → every q xs ≡ true
every_weaker p q h [] e = refl
every_weaker p q h (x ∷ xs) e = let parts = and_parts (p x) (every p xs) e in and_from (q x) (every q xs) (h x parts.0) (every_weaker p q h xs parts.1)

-- one passes if not every one fails
some_not_every : {A : Type 0} (p : A → Bool) (xs : List A) → some p xs ≡ not (every (λ x. not (p x)) xs)
some_not_every p [] = refl
some_not_every p (x ∷ xs) = elim (p x) as (λ b. (b || some p xs) ≡ not (not b && every (λ y. not (p y)) xs)) [ true ↦ refl | false ↦ some_not_every p xs ]

-- what is kept of one element more
every_kept_more : {A : Type 0} (p q : A → Bool) (x : A) (xs : List A) → every p (filter q (x ∷ xs)) ≡ ((not (q x) || p x) && every p (filter q xs))
every_kept_more p q x xs = elim (q x) as (λ b. every p (cond b (x ∷ filter q xs) (filter q xs)) ≡ ((not b || p x) && every p (filter q xs))) [ true ↦ refl | false ↦ refl ]

-- one test follows from another
decides_follows : (q p : Bool) → Decides (not q || p) (q ≡ true → p ≡ true)
decides_follows true p = (λ e _. e, λ f. f refl)
decides_follows false p = (λ _ e. absurd (both_ways false refl e), λ _. refl)

-- each of those kept passes exactly if each element that is to be kept does
every_kept_decides : (p q : ℕ → Bool) (xs : List ℕ) → Decides (every p (filter q xs)) (AllByRecursion (λ x. q x ≡ true → p x ≡ true) xs)
every_kept_decides p q = Decides-by_and (λ x. not (q x) || p x) (λ x. q x ≡ true → p x ≡ true) (λ xs. every p (filter q xs)) (λ x. decides_follows (q x) (p x)) refl (every_kept_more p q)

-- what holds of each number counted holds of each below the end
below_from_all : (P : ℕ → Type 0) (n : ℕ) → AllByRecursion P (range_with_len 0 n) → (k : ℕ) → k < n → P k
below_from_all P n h k l =
    let long = length-range_with_len 0 n in
    let here : get_or (range_with_len 0 n) k 0 ≡ k = omega (arith, get_or-range_with_len 0 n k 0 l) in
    rw here at (All-get_or P (range_with_len 0 n) k 0 (omega arith) h)

-- and the other way round
all_from_below : (P : ℕ → Type 0) (n : ℕ) → ((k : ℕ) → k < n → P k) → AllByRecursion P (range_with_len 0 n)
all_from_below P n h =
    let long = length-range_with_len 0 n in
    All-from_get_or P (range_with_len 0 n) 0 (λ k l.
    let lower : k < n = omega arith in
    let here : get_or (range_with_len 0 n) k 0 ≡ k = omega (arith, get_or-range_with_len 0 n k 0 lower) in
    rw here (h k lower))

-- each number of a mask passes a test
pub every_member : (p : ℕ → Bool) (m : ℕ) → Decides (every p (members m)) ((k : ℕ) → k < 64 → bit m k ≡ true → p k ≡ true)
unfolding members
every_member p m = Decides-like (every p (filter (bit m) (range_with_len 0 64)))
    (below_from_all (λ k. bit m k ≡ true → p k ≡ true) 64)
    (all_from_below (λ k. bit m k ≡ true → p k ≡ true) 64)
    (every_kept_decides p (bit m) (range_with_len 0 64))

-- a mask has no bit of a word whose bits say which numbers fail, exactly if each of its numbers passes
pub every_free : (p : ℕ → Bool) (m w : ℕ) → w < 2 ^ 64 → ((k : ℕ) → k < 64 → bit w k ≡ not (p k)) → eqb (bit_and m w) 0 ≡ every p (members m)
every_free p m w h f = same_from_decides (eqb (bit_and m w) 0) (every p (members m)) (apart_decides m w)
    (Decides-like (every p (members m))
    (λ g s a b. ⊎_elim
    (λ (l : s < 64). both_ways (p s) (not-true (p s) (sym (f s l) ∙ b)) (g s l a))
    (λ (l : 64 ≤ s). both_ways (bit w s) (bit_above 64 w s h l) b)
    (cases_lt s 64))
    (λ g s l a. ⊎_elim
    (λ (e : p s ≡ true). e)
    (λ (e : p s ≡ false). absurd (g s a (f s l ∙ ap not e)))
    (cases_Bool (p s)))
    (every_member p m))

-- each number of a mask is set in a word
pub every_set : (m w : ℕ) → w < 2 ^ 64 → eqb (bit_and m (2 ^ 64 - 1 - w)) 0 ≡ every (bit w) (members m)
every_set m w h = every_free (bit w) m (2 ^ 64 - 1 - w) (omega arith) (λ k l. bit_complement 64 w k h l)

-- one number of a mask is set in a word
pub some_set : (m w : ℕ) → w < 2 ^ 64 → not (eqb (bit_and m w) 0) ≡ some (bit w) (members m)
some_set m w h = ap not (every_free (λ k. not (bit w k)) m w h (λ k l. sym (not-not (bit w k)))) ∙ sym (some_not_every (bit w) (members m))
