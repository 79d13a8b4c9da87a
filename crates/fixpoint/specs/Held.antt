-- Lists of numbers, as a table holds them: lemmas. They stand in specs/ since a law that src/latest.rt shows cites one. Assumes nothing.
use Rattle.std.specs.Prelude.{◌≡◌, ℕ, ◌+◌, ◌-◌, ◌<◌, ◌≤◌, Bool, true, false, cond, not, ◌&&◌, ◌||◌, ltb, List, [], ◌∷◌, ◌++◌, map, length, take, drop, Some, None, Decides, Option, MatchOption, ◌==◌, nat_eq, nat_lt, slice_index, refl}
use Rattle.std.proofs.Common.{sym, ap, ◌∙◌, ⊎_elim, arith}
use Rattle.std.specs.List.{range_with_len, AllByRecursion}
use Rattle.std.proofs.lemmas.List.FromFn.{fill_by_all}
use Rattle.std.proofs.ByRecursion.{All-append, All-drop, all_kept_by, All-get_or, Decides-by_and}
use Rattle.std.proofs.lemmas.List.{at_drop_more, get_or-take, length-take, take_all, take_more}
use Rattle.std.proofs.lemmas.Bool.{cases_Bool, cond_both, le-ltb, eqb-true, eq-eqb, or_left, or_right, or_cases, false≢true}
use Rattle.std.proofs.lemmas.Bool.Decides.{nat_tests, Decides-ltb, when_true, when_false}
use Rattle.fixpoint.specs.Numbers.{has, small, without}
use Rattle.fixpoint.specs.Table.{Pushed}
use Rattle.fixpoint.specs.Latest.{newest_outside, or_else}

-- whether i is among the first n numbers from place k on: it stands there, or comes later
pub has_from : (i n k : ℕ) (xs : List ℕ) → k < n → n ≤ length xs → has i (drop k (take n xs)) ≡ (i == slice_index xs k || has i (drop (k + 1) (take n xs)))
has_from i n k xs l h =
    let within : k < length (take n xs) = simp length-take (omega arith) in
    at_drop_more (has i) (take n xs) k 0 within ∙ rw get_or-take

-- a number is in two lists joined where it is in one of them
pub has_append : (i : ℕ) (xs ys : List ℕ) → has i (xs ++ ys) ≡ (has i xs || has i ys)
has_append i [] ys = refl
has_append i (x ∷ xs) ys = let e = has_append i xs ys in grind (arith, nat_tests)

-- a number is in a list where it is the oldest or one of the others
pub has_oldest : (i : ℕ) (xs : List ℕ) → 0 < length xs → has i xs ≡ (i == slice_index xs 0 || has i (drop 1 xs))
has_oldest i [] l = absurd (omega arith)
has_oldest i (x ∷ xs) l = refl

-- the list without i has the other numbers
pub has_without : (i j : ℕ) (xs : List ℕ) → has j (without i xs) ≡ (has j xs && not (j == i))
has_without i j [] = refl
has_without i j (x ∷ xs) = let e = has_without i j xs in
    cond_both (not (x == i)) (x ∷ without i xs) (without i xs) (λ ys. has j ys ≡ ((j == x || has j xs) && not (j == i)))
    (λ h. grind (arith, nat_tests)) (λ h. grind (arith, nat_tests))

-- a list is small where each of its numbers is
small_decides : (xs : List ℕ) → Decides (small xs) (AllByRecursion (λ x. x < 128) xs)
small_decides xs = Decides-by_and (λ x. ltb x 128) (λ x. x < 128) small (λ x. Decides-ltb x 128) refl (λ _ _. refl) xs

-- one small number more
small_push : (xs : List ℕ) (i : ℕ) → small xs ≡ true → i < 128 → small (xs ++ (i ∷ [])) ≡ true
small_push xs i s l = (small_decides (xs ++ (i ∷ []))).1 (All-append (λ x. x < 128) xs (i ∷ []) ((small_decides xs).0 s) (l, tt))

-- the numbers from a place on
small_drop : (n : ℕ) (xs : List ℕ) → small xs ≡ true → small (drop n xs) ≡ true
small_drop n xs s = (small_decides (drop n xs)).1 (All-drop (λ x. x < 128) n xs ((small_decides xs).0 s))

-- the numbers but i
pub small_without : (i : ℕ) (xs : List ℕ) → small xs ≡ true → small (without i xs) ≡ true
small_without i xs s = (small_decides (without i xs)).1 (all_kept_by (λ x. not (x == i)) (λ x. x < 128) xs ((small_decides xs).0 s))

-- the number at a place
pub small_getD : (xs : List ℕ) (k : ℕ) → k < length xs → small xs ≡ true → slice_index xs k < 128
small_getD xs k l s = All-get_or (λ x. x < 128) xs k 0 l ((small_decides xs).0 s)

-- a number among small ones
pub small_has : (xs : List ℕ) (i : ℕ) → small xs ≡ true → has i xs ≡ true → i < 128
small_has [] i s h = absurd (false≢true h)
small_has (x ∷ xs) i s h = let more = small_has xs i in grind (arith, nat_tests)

-- eight numbers, one by one
eight_are : (xs : List ℕ) → length xs ≡ 8 → xs ≡ map (λ k. slice_index xs k) (range_with_len 0 8)
eight_are xs e = fill_by_all (λ k. slice_index xs k) xs 8 0 e (λ k h. refl)

-- a full table gives up its oldest number
pub pushed_full : (n i : ℕ) (xs : List ℕ) → 8 ≤ n → length xs ≡ 8 → Pushed (take n xs) i (Some (slice_index xs 0)) (take n (drop 1 (map (λ k. slice_index xs k) (range_with_len 0 8)) ++ (i ∷ [])))
pushed_full n i xs l e =
    let whole : take n xs ≡ xs = take_all n xs (omega arith) in
    let full : ltb (length xs) 8 ≡ false = le-ltb (length xs) 8 (omega arith) in
    let pushed = take_all n (drop 1 (map (λ k. slice_index xs k) (range_with_len 0 8)) ++ (i ∷ [])) l in
    rw (whole, full) (refl, pushed ∙ ap (λ ys. drop 1 ys ++ (i ∷ [])) (sym (eight_are xs e)))

-- where the answer is none, there was room
pub pushed_none : (xs ys : List ℕ) (i : ℕ) → Pushed xs i None ys → (nat_lt (length xs) 8 ≡ true) × (ys ≡ xs ++ (i ∷ []))
pushed_none xs ys i h = ⊎_elim
    (λ (e : ltb (length xs) 8 ≡ true). (e, (when_true _ _ e h).1))
    (λ (e : ltb (length xs) 8 ≡ false). let z : ◌≡◌ {A = ℕ} 0 1 = cc (when_false _ _ e h).0 in absurd (omega arith))
    (cases_Bool (nat_lt (length xs) 8))

-- where the answer is a number, that was the oldest of eight
pub pushed_some : (xs ys : List ℕ) (i o : ℕ) → Pushed xs i (Some o) ys → (nat_lt (length xs) 8 ≡ false) × (o ≡ slice_index xs 0) × (ys ≡ drop 1 xs ++ (i ∷ []))
pushed_some xs ys i o h = ⊎_elim
    (λ (e : ltb (length xs) 8 ≡ true). let z : ◌≡◌ {A = ℕ} 0 1 = cc (when_true _ _ e h).0 in absurd (omega arith))
    (λ (e : ltb (length xs) 8 ≡ false). (e, cc (when_false _ _ e h).0, (when_false _ _ e h).1))
    (cases_Bool (nat_lt (length xs) 8))

-- a small number pushed onto small ones leaves small ones
pub pushed_small : (xs ys : List ℕ) (i : ℕ) (o : Option ℕ) → Pushed xs i o ys → small xs ≡ true → i < 128 → small ys ≡ true
pushed_small xs ys i None h s l = ap small (pushed_none xs ys i h).1 ∙ small_push xs i s l
pushed_small xs ys i (Some o) h s l = ap small (pushed_some xs ys i o h).2 ∙ small_push (drop 1 xs) i (small_drop 1 xs s) l

-- the newest outside a set, with one number more
newest_push : (p : ℕ → Bool) (xs : List ℕ) (x : ℕ) → newest_outside p (xs ++ (x ∷ [])) ≡ cond (p x) (newest_outside p xs) (Some x)
newest_push p [] x = refl
newest_push p (y ∷ ys) x =
    let older = cond (p y) None (Some y) in
    rw (newest_push p ys x)
    (elim (p x) as (λ b. or_else (cond b (newest_outside p ys) (Some x)) older ≡ cond b (or_else (newest_outside p ys) older) (Some x)) [ true ↦ refl | false ↦ refl ])

-- the newest outside a set among the first n numbers: the last of them, or else one before it
pub newest_from : (p : ℕ → Bool) (n : ℕ) (xs : List ℕ) → 0 < n → n ≤ length xs → newest_outside p (take n xs) ≡ cond (p (slice_index xs (n - 1))) (newest_outside p (take (n - 1) xs)) (Some (slice_index xs (n - 1)))
newest_from p n xs l h =
    let e : n ≡ n - 1 + 1 = omega arith in
    ap (λ m. newest_outside p (take m xs)) e
    ∙ ap (newest_outside p) (take_more xs (n - 1) 0 (omega arith))
    ∙ newest_push p (take (n - 1) xs) (slice_index xs (n - 1))

-- the newest outside a set is in the list and not in the set; where there is none, the set has the whole list
abbrev pub Newest : (ℕ → Bool) → List ℕ → Option ℕ → Type 0
Newest p xs o = MatchOption o ((i : ℕ) → has i xs ≡ true → p i ≡ true) (λ i. (has i xs ≡ true) × (p i ≡ false))

-- one older number, after which all are in the set
newest_last : (p : ℕ → Bool) (x : ℕ) (xs : List ℕ) (b : Bool) → p x ≡ b → Newest p xs None → Newest p (x ∷ xs) (cond b None (Some x))
newest_last p x xs true e all = λ i h. ⊎_elim (λ (k : nat_eq i x ≡ true). ap p (eqb-true i x k) ∙ e) (all i) (or_cases (i == x) (has i xs) h)
newest_last p x xs false e all = (or_left (x == x) (has x xs) (eq-eqb x x refl), e)

-- one older number
newest_more : (p : ℕ → Bool) (x : ℕ) (xs : List ℕ) (o : Option ℕ) → Newest p xs o → Newest p (x ∷ xs) (or_else o (cond (p x) None (Some x)))
newest_more p x xs None h = newest_last p x xs (p x) refl h
newest_more p x xs (Some i) h = (or_right (i == x) (has i xs) h.0, h.1)

-- what the definition finds is the newest
pub newest_is : (p : ℕ → Bool) (xs : List ℕ) → Newest p xs (newest_outside p xs)
newest_is p [] = λ i h. absurd (false≢true h)
newest_is p (x ∷ xs) = newest_more p x xs (newest_outside p xs) (newest_is p xs)
