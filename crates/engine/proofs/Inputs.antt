-- The bits of a mask that are not inputs. Assumes nothing.
use Rattle.std.proofs.Common.{◌≡◌, ℕ, ◌-◌, ◌^◌, ◌<◌, ◌≤◌, Bool, true, false, not, ◌&&◌, ◌||◌, eqb, ltb, List, [], ◌∷◌, ◌++◌, length, get_or, Option, sym, refl, ap, ◌∙◌, ⊎_elim, arith}
use Rattle.std.specs.List.{FoldsTo, range_with_len, filter, list_any}
use lib.Bits.{bit_and, and_lt}
use lib.Pow.{ones_sub-lt}
use Rattle.std.proofs.lemmas.Option.{slice_get_past}
use Rattle.std.proofs.lemmas.Bool.{and_from, and_left, and_parts, eq-eqb, eqb-true, both_ways, cases_lt, lt-ltb, not-true}
use Rattle.std.proofs.Math.Bool.{and-true, or-false}
use Rattle.std.proofs.lemmas.List.Folds.{list_any-append, list_any_at}
use Rattle.std.proofs.lemmas.List.FromFn.{get_or-range_with_len, length-range_with_len}
use Rattle.std.specs.Fn.{Called}
use Rattle.std.specs.Iterator.{Drains}
use Rattle.std.proofs.lemmas.Fn.{fold_over}
use Rattle.std.proofs.lemmas.Iterator.{YieldsList}
use denote.Param.Members.{Mut}
use Rattle.std.proofs.lemmas.Map.Views.{any-filter_same}
use Rattle.std.proofs.lemmas.Bool.Decides.{nat_tests}
use Rattle.bits.specs.Bits.{bit}
use Rattle.bits.proofs.Digits.{bit_above, bit_of_and, bit_complement, bit_zero}
use Rattle.bits.proofs.Masks.{bit_mask, mask_cases, mask_small, same_word}
use Rattle.chart.specs.Decoded.{Decoded, input, is_input_signal}
use Rattle.engine.specs.Answer.{not_inputs}

-- a number beyond the signals is no input
no_input : (c : Decoded) (s : ℕ) → length c.signals ≤ s → input c s ≡ false
no_input c s l = ap is_input_signal (slice_get_past c.signals s l)

within : (b : Bool) (j : ℕ) → j < 64 → (ltb j 64 && b) ≡ b
within b j l = let inside = lt-ltb j 64 l in grind (arith, nat_tests)

-- what is left of a mask without the inputs
pub others_are : (c : Decoded) (mask w : ℕ) → mask < 2 ^ 64 → w < 2 ^ 64 → ((s : ℕ) → bit w s ≡ input c s) → bit_and mask (2 ^ 64 - 1 - w) ≡ not_inputs c mask
unfolding not_inputs
others_are c mask w h l known =
    let test : ℕ → Bool = λ s. bit mask s && not (input c s) in
    let narrow = mask_small test 64 in
    let less = and_lt 64 mask (2 ^ 64 - 1 - w) h (ones_sub-lt 64 w) in
    same_word 64 (bit_and mask (2 ^ 64 - 1 - w)) (not_inputs c mask) less narrow (λ j small.
    bit_of_and mask (2 ^ 64 - 1 - w) j
    ∙ ap (λ b. bit mask j && b) (bit_complement 64 w j l small ∙ ap not (known j))
    ∙ sym (bit_mask test 64 j ∙ within (test j) j small))

-- a mask that has only inputs has no bit that is none
pub only_inputs : (c : Decoded) (mask : ℕ) → ((s : ℕ) → bit mask s ≡ true → input c s ≡ true) → not_inputs c mask ≡ 0
unfolding not_inputs
only_inputs c mask inputs = ⊎_elim
    (λ (none : not_inputs c mask ≡ 0). none)
    (λ (p : (s : ℕ) × (s < 64) × ((bit mask s && not (input c s)) ≡ true)).
    let parts = and_parts (bit mask p.0) (not (input c p.0)) p.2 in
    absurd (both_ways (input c p.0) (not-true (input c p.0) parts.1) (inputs p.0 parts.0)))
    (mask_cases (λ s. bit mask s && not (input c s)) 64)

-- a bit that is set and is not left over is an input's
not_left : (set input : Bool) (s : ℕ) → s < 64 → set ≡ true → (ltb s 64 && (set && not input)) ≡ false → input ≡ true
not_left set input s l e clear = let inside = lt-ltb s 64 l in grind (arith, nat_tests)

-- and the other way round
pub inputs_only : (c : Decoded) (mask : ℕ) → mask < 2 ^ 64 → not_inputs c mask ≡ 0 → (s : ℕ) → bit mask s ≡ true → input c s ≡ true
unfolding not_inputs
inputs_only c mask h none s e =
    let inside : s < 64 = ⊎_elim (λ (l : s < 64). l) (λ (l : 64 ≤ s). absurd (both_ways (bit mask s) (bit_above 64 mask s h l) e)) (cases_lt s 64) in
    not_left (bit mask s) (input c s) s inside e (sym (bit_mask (λ j. bit mask j && not (input c j)) 64 s) ∙ ap (λ w. bit w s) none ∙ bit_zero s)

-- the bits of a word are the numbers of a list
abbrev pub numbered : List ℕ → ℕ → Type 0
numbered ys w = (j : ℕ) → bit w j ≡ list_any (λ x. ltb x 64 && eqb j x) ys

-- one number more
pub numbered_more : (ys : List ℕ) (a x b : ℕ) → numbered ys a → ((j : ℕ) → bit b j ≡ (bit a j || (ltb x 64 && eqb j x))) → numbered (ys ++ (x ∷ [])) b
numbered_more ys a x b before here j =
    let test : ℕ → Bool = λ y. ltb y 64 && eqb j y in
    here j ∙ ap (λ d. d || test x) (before j) ∙ ap (λ d. list_any test ys || d) (sym (or-false (test x))) ∙ sym (list_any-append test ys (x ∷ []))

-- a fold that sets a bit for each number leaves the numbers that it was given
pub fold_numbered : {S F : Type 0} {steps : S → Option ℕ → S → Type 0} {s : S} {all : List ℕ} (g : Mut F (ℕ × (ℕ × Unit {0})) ℕ) {f : F} (r : ℕ)
    → ((xs : List ℕ) × (f' : F) × Drains steps s xs × FoldsTo {P = F × ℕ} (λ p x q. Called g p.0 (p.1, (x, tt)) q.1 q.0) (f, 0) xs (f', r))
    → YieldsList steps (λ x. x) s all
    → ((a x b : ℕ) (f' : F) → Called g f (a, (x, tt)) b f' → ((j : ℕ) → bit b j ≡ (bit a j || (ltb x 64 && eqb j x))) × (f' ≡ f)) → numbered all r
fold_numbered {S} {F} {steps} {s} {all} g {f} r ran given step =
    fold_over steps (λ x. x) g numbered f (λ ys a x b f' i k. let u = step a x b f' k in (numbered_more ys a x b i u.0, u.1)) s all 0 r given.runs bit_zero ran

-- the inputs are the numbers below the count of signals that are inputs
pub numbered_inputs : (c : Decoded) → length c.signals ≤ 64 → (j : ℕ) → list_any (λ x. ltb x 64 && eqb j x) (filter (input c) (range_with_len 0 (length c.signals))) ≡ input c j
numbered_inputs c few j =
    let n = length c.signals in
    let test : ℕ → Bool = λ y. ltb y 64 && eqb j y in
    any-filter_same test (input c) (input c j) (λ k e. ap (input c) (sym (eqb-true j k (and_parts (ltb k 64) (eqb j k) e).1))) (range_with_len 0 n)
    ∙ ⊎_elim
    (λ (l : j < n).
    let here : get_or (range_with_len 0 n) j 0 ≡ j = omega (arith, get_or-range_with_len 0 n j 0 l) in
    let found : test (get_or (range_with_len 0 n) j 0) ≡ true = rw here (and_from (ltb j 64) (eqb j j) (lt-ltb j 64 (omega arith)) (eq-eqb j j refl)) in
    ap (λ d. input c j && d) (list_any_at test (range_with_len 0 n) j 0 (omega (arith, length-range_with_len 0 n)) found) ∙ and-true (input c j))
    (λ (l : n ≤ j). let out = no_input c j l in and_left (input c j) (list_any test (range_with_len 0 n)) out ∙ sym out)
    (cases_lt j n)
