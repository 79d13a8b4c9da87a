-- The steps of the walk over a file. Assumes nothing.
use Rattle.std.proofs.Common.{◌≡◌, ℕ, zero, suc, ◌+◌, ◌-◌, ◌*◌, ◌<◌, ◌≤◌, Bool, true, false, cond, ◌&&◌, eqb, leb, ltb, List, length, take, drop, Ok, Err, sym, refl, ap, ◌∙◌, subst, ⊎_elim, add-one, arith}
use Rattle.std.specs.List.{list_all, prefix_len}
use Rattle.std.proofs.lemmas.List.{at_drop_more}
use Rattle.std.proofs.lemmas.Bool.Decides.{nat_tests}
use Rattle.std.proofs.lemmas.Bool.{cases_Bool, le-leb, lt-leb, lt-ltb, le-ltb}
use Rattle.chart.specs.Check.{is_letter, records, states_upto, tidy, zeros}
use Rattle.chart.specs.Places.{byte}
use Rattle.chart.specs.declared.fault.ChartFault.{ChartFault}
use Rattle.chart.specs.declared.fault.ChartFault.TheVariants.{EndsEarly}

-- the part of a file that `bytes[p..p + 8]` is
pub eight_bytes : (bs : List ℕ) (p : ℕ) → take (p + 8 - p) (drop p bs) ≡ take 8 (drop p bs)
eight_bytes bs p = let eight : p + 8 - p ≡ 8 = omega arith in ap (λ n. take n (drop p bs)) eight

-- zero bytes, as a list
zeros_by : (bs : List ℕ) (n p : ℕ) → p + n ≤ length bs → zeros bs n p ≡ list_all (λ b. eqb b 0) (take n (drop p bs))
unfolding zeros
zeros_by bs zero p l = refl
zeros_by bs (suc n) p l =
    ap (λ z. eqb (byte bs p) 0 && z) (zeros_by bs n (p + 1) (omega arith))
    ∙ sym (at_drop_more (λ xs. list_all (λ b. eqb b 0) (take (suc n) xs)) bs p 0 (omega arith))

-- what follows the letters and digits in front is zero bytes alone
abbrev pub zero_after : List ℕ → Bool
zero_after xs = list_all (λ b. eqb b 0) (drop (prefix_len is_letter xs) xs)

-- a letter is no zero byte
letter_some : (b : ℕ) → is_letter b ≡ true → eqb b 0 ≡ false
letter_some b e = grind (arith, nat_tests)

either_zero : (a b : Bool) → cond a b false ≡ (a && b)
either_zero true b = refl
either_zero false b = refl

-- the test of a name, by what follows its letters
pub tidy_by : (bs : List ℕ) (n p : ℕ) → p + n ≤ length bs → tidy bs n p ≡ zero_after (take n (drop p bs))
unfolding tidy
tidy_by bs zero p l = refl
tidy_by bs (suc n) p l =
    let first = at_drop_more (λ xs. zero_after (take (suc n) xs)) bs p 0 (omega arith) in
    let ys = take n (drop (p + 1) bs) in
    ⊎_elim
    (λ (z : is_letter (byte bs p) ≡ true).
    let some : eqb (byte bs p) 0 ≡ false = letter_some (byte bs p) z in
    let one : 1 + prefix_len is_letter ys ≡ suc (prefix_len is_letter ys) = omega arith in
    rw (first, z, some, one) (tidy_by bs n (p + 1) (omega arith)))
    (λ (z : is_letter (byte bs p) ≡ false). rw (first, z)
    (either_zero (eqb (byte bs p) 0) (zeros bs n (p + 1)) ∙ ap (λ b. eqb (byte bs p) 0 && b) (zeros_by bs n (p + 1) (omega arith))))
    (cases_Bool (is_letter (byte bs p)))

-- one automaton more
pub states_more : (bs : List ℕ) (p k : ℕ) → states_upto bs p (k + 1) ≡ states_upto bs p k + byte bs (p + 4 * k + 2)
unfolding states_upto
states_more bs p k = ap (states_upto bs p) (add-one k)

-- no automaton
pub states_none : (bs : List ℕ) (p : ℕ) → states_upto bs p 0 ≡ 0
unfolding states_upto
states_none bs p = refl

-- more automata have no fewer states
states_grow : (bs : List ℕ) (p k n : ℕ) → states_upto bs p k ≤ states_upto bs p (k + n)
states_grow bs p k zero = let same : k ≡ k + 0 = omega arith in subst (λ m. states_upto bs p k ≤ states_upto bs p m) same (omega arith)
states_grow bs p k (suc n) =
    let same : k + n + 1 ≡ k + suc n = omega arith in
    let less : states_upto bs p k ≤ states_upto bs p (k + n + 1) = omega (arith, states_grow bs p k n, states_more bs p (k + n)) in
    subst (λ m. states_upto bs p k ≤ states_upto bs p m) same less

-- automaton k is among the first n, which together have few enough states
pub few_together : (bs : List ℕ) (p n k : ℕ) → k < n → states_upto bs p n ≤ 64 → ltb k n ≡ leb (states_upto bs p (k + 1)) 64
few_together bs p n k l few =
    let same : k + 1 + (n - (k + 1)) ≡ n = omega arith in
    let less = subst (λ m. states_upto bs p (k + 1) ≤ states_upto bs p m) same (states_grow bs p (k + 1) (n - (k + 1))) in
    lt-ltb k n l ∙ sym (le-leb (states_upto bs p (k + 1)) 64 (omega (arith, less, few)))

-- automaton k is not among the first n, and already one more than these takes the states over the limit
pub many_together : (bs : List ℕ) (p n k : ℕ) → n ≤ k → 64 < states_upto bs p (n + 1) → ltb k n ≡ leb (states_upto bs p (k + 1)) 64
many_together bs p n k l many =
    let same : n + 1 + (k - n) ≡ k + 1 = omega arith in
    let less = subst (λ m. states_upto bs p (n + 1) ≤ states_upto bs p m) same (states_grow bs p (n + 1) (k - n)) in
    le-ltb k n l ∙ sym (lt-leb (states_upto bs p (k + 1)) 64 (omega (arith, less, many)))

module _ (size : ℕ) (good : ℕ → Bool) (fault : ℕ → ChartFault) (bs : List ℕ) (p n i : ℕ) where
  -- no record is left
  pub records_none : n ≡ 0 → records size good fault bs p n i ≡ Ok (p + size * i)
  unfolding records
  records_none e = rw e

  -- a record that is cut short
  pub records_cut : 0 < n → length bs < p + size * i + size → records size good fault bs p n i ≡ Err (EndsEarly (length bs))
  unfolding records
  records_cut l h = let e : n ≡ suc (n - 1) = omega arith in rw (e, lt-ltb (length bs) (p + size * i + size) h)

  -- one that breaks a rule
  pub records_broken : 0 < n → p + size * i + size ≤ length bs → good i ≡ false → records size good fault bs p n i ≡ Err (fault (p + size * i))
  unfolding records
  records_broken l h b = let e : n ≡ suc (n - 1) = omega arith in rw (e, le-ltb (length bs) (p + size * i + size) h, b)

  -- one that keeps them
  pub records_more : 0 < n → p + size * i + size ≤ length bs → good i ≡ true → records size good fault bs p n i ≡ records size good fault bs p (n - 1) (i + 1)
  unfolding records
  records_more l h b = let e : n ≡ suc (n - 1) = omega arith in rw (e, le-ltb (length bs) (p + size * i + size) h, b) (ap (λ m. records size good fault bs p m (i + 1)) (omega arith))
