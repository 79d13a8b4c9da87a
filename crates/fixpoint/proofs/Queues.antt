-- The numbers in a ring from a place on, and what is in a list of numbers. Assumes nothing.
use Rattle.std.proofs.Common.{◌≡◌, ℕ, zero, suc, ◌+◌, ◌-◌, ◌%◌, ◌<◌, true, false, not, eqb, ◌≢◌, List, [], ◌∷◌, ◌++◌, length, get_or, set, drop, Some, refl, ap, ◌∙◌, ap₂, ⊎_elim, add-one, arith}
use Rattle.std.proofs.lemmas.List.{get_or-set_same, get_or-set_other}
use Rattle.std.proofs.lemmas.Bool.{and_from, and_parts, or_parts, cases_eq}
use Rattle.std.proofs.lemmas.Bool.Decides.{nat_tests}
use Rattle.fixpoint.specs.Arrival.{front, queue}
use Rattle.fixpoint.specs.Numbers.{has, distinct}
use Rattle.fixpoint.specs.Worklist.{with_number, without_number}
use Rattle.fixpoint.specs.Held.{has_append}

-- an empty queue
pub queue_none : (ring : List ℕ) (head : ℕ) → queue ring head 0 ≡ []
unfolding queue
queue_none ring head = refl

-- it is as long as it says
pub length_queue : (ring : List ℕ) (head n : ℕ) → length (queue ring head n) ≡ n
unfolding queue
length_queue ring head zero = refl
length_queue ring head (suc n) = ap suc (length_queue ring ((head + 1) % 128) n)

-- its front and the others
pub queue_front : (ring : List ℕ) (head n : ℕ) → (n ≡ 0 → ⊥) → queue ring head n ≡ get_or ring head 0 ∷ queue ring ((head + 1) % 128) (n - 1)
unfolding queue
queue_front ring head zero h = absurd (h refl)
queue_front ring head (suc n) h = let e : suc n - 1 ≡ n = omega arith in rw e

-- one more place at its end
pub queue_more : (ring : List ℕ) (head n : ℕ) → head < 128 → queue ring head (n + 1) ≡ queue ring head n ++ (get_or ring ((head + n) % 128) 0 ∷ [])
unfolding queue
queue_more ring head zero h = let e : (head + 0) % 128 ≡ head = omega arith in rw e
queue_more ring head (suc n) h =
    let next : ((head + 1) % 128 + n) % 128 ≡ (head + suc n) % 128 = omega arith in
    let ih = queue_more ring ((head + 1) % 128) n (omega arith) in
    rw (add-one (suc n)) (ap (λ ys. get_or ring head 0 ∷ ys) (rw (next, add-one n) at ih))

-- a write to a place that is not in it
queue_set : (ring : List ℕ) (head n at x : ℕ) → head < 128 → ((k : ℕ) → k < n → (head + k) % 128 ≢ at) → queue (set ring at x) head n ≡ queue ring head n
unfolding queue
queue_set ring head zero at x h other = refl
queue_set ring head (suc n) at x h other =
    ap₂ (λ y ys. y ∷ ys)
    (get_or-set_other ring at head x 0 (λ e. other 0 (omega arith) (omega arith)))
    (queue_set ring ((head + 1) % 128) n at x (omega arith) (λ k l e. other (k + 1) (omega arith) (omega arith)))

-- a write to the place behind it
pub queue_push : (ring : List ℕ) (head n x : ℕ) → length ring ≡ 128 → head < 128 → n < 128 → queue (set ring ((head + n) % 128) x) head (n + 1) ≡ queue ring head n ++ (x ∷ [])
queue_push ring head n x l h r =
    let at : ℕ = (head + n) % 128 in
    queue_more (set ring at x) head n h
    ∙ ap₂ (λ ys y. ys ++ (y ∷ []))
    (queue_set ring head n at x h (λ k s e. omega arith))
    (get_or-set_same ring at x 0 (omega arith))

-- what a list has with one more number at the end
pub has_push : (xs : List ℕ) (x j : ℕ) → has j (xs ++ (x ∷ [])) ≡ with_number x (λ k. has k xs) j
has_push xs x j = let e = has_append j xs (x ∷ []) in grind (arith, nat_tests)

-- a number that was not in it makes none stand twice
pub distinct_push : (xs : List ℕ) (x : ℕ) → distinct xs ≡ true → has x xs ≡ false → distinct (xs ++ (x ∷ [])) ≡ true
distinct_push [] x d h = refl
distinct_push (y ∷ xs) x d h =
    let p = and_parts (not (has y xs)) (distinct xs) d in
    let q = or_parts (eqb x y) (has x xs) h in
    and_from (not (has y (xs ++ (x ∷ [])))) (distinct (xs ++ (x ∷ [])))
    (rw (has_push xs x y) (grind (arith, nat_tests)))
    (distinct_push xs x p.1 q.1)

-- a list with a front is that and the others
pub front_first : (xs ys : List ℕ) (x : ℕ) → Some x ≡ front xs → ys ≡ drop 1 xs → xs ≡ x ∷ ys
front_first [] ys x e d = cc
front_first (y ∷ xs) ys x e d = let same : x ≡ y = cc in let rest : ys ≡ xs = d in cc

-- where no number stands twice, the rest has all but the front
pub has_rest : (x : ℕ) (xs : List ℕ) → distinct (x ∷ xs) ≡ true → (j : ℕ) → has j xs ≡ without_number x (λ k. has k (x ∷ xs)) j
has_rest x xs d j =
    let p = and_parts (not (has x xs)) (distinct xs) d in
    ⊎_elim
    (λ (e : j ≡ x). let f : has j xs ≡ has x xs = ap (λ k. has k xs) e in grind (arith, nat_tests))
    (λ (e : j ≡ x → ⊥). grind (arith, nat_tests))
    (cases_eq j x)
