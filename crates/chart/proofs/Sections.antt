-- What it means that the walk over a section, and over the file, ends well. Assumes nothing.
use Rattle.std.proofs.Common.{◌≡◌, ℕ, zero, suc, ◌+◌, ◌*◌, ◌<◌, ◌≤◌, Bool, true, false, cond, ◌&&◌, ltb, leb, List, length, Ok, Err, Result, sym, refl, ap, ◌∙◌, subst, ⊎_elim, mul-zero, mul-suc, mul-add, arith}
use Rattle.std.proofs.lemmas.Bool.{and_from, and_parts, cases_eq, cond-true, cond-false, le-leb, leb-true, leb-false, lt-leb, le-ltb, ltb-false}
use Rattle.chart.specs.Check.{and_then, counted, records, section}
use Rattle.chart.specs.Places.{byte}
use Rattle.chart.specs.declared.fault.ChartFault.{ChartFault}
use Rattle.chart.specs.declared.fault.ChartFault.TheVariants.{EndsEarly, CountOutOfRange}

-- a fault is no success
no_fault : {A B : Type 0} (e : ChartFault) (a : A) → ◌≡◌ {A = Result A ChartFault} (Err e) (Ok a) → B
no_fault e a p = let z : ◌≡◌ {A = ℕ} 0 1 = cc in absurd (omega arith)

-- a test that stands between success and a fault was not met
pub unless : {A : Type 0} (b : Bool) (e : ChartFault) (r : Result A ChartFault) (a : A) → cond b (Err e) r ≡ Ok a → (b ≡ false) × (r ≡ Ok a)
unless true e r a p = no_fault e a p
unless false e r a p = (refl, p)

-- a test that leads to success was met
provided : {A : Type 0} (b : Bool) (e : ChartFault) (r : Result A ChartFault) (a : A) → cond b r (Err e) ≡ Ok a → (b ≡ true) × (r ≡ Ok a)
provided true e r a p = (refl, p)
provided false e r a p = no_fault e a p

-- one step after the other ends well if both do
pub both_ok : {A B : Type 0} (r : Result A ChartFault) (next : A → Result B ChartFault) (b : B) → and_then r next ≡ Ok b → (a : A) × (r ≡ Ok a) × (next a ≡ Ok b)
both_ok (Ok a) next b p = (a, refl, p)
both_ok (Err e) next b p = no_fault e b p

pub both_from : {A B : Type 0} (r : Result A ChartFault) (next : A → Result B ChartFault) (a : A) (b : B) → r ≡ Ok a → next a ≡ Ok b → and_then r next ≡ Ok b
both_from r next a b p q = ap (λ x. and_then x next) p ∙ q

module _ (size : ℕ) (good : ℕ → Bool) (fault : ℕ → ChartFault) (bs : List ℕ) (p : ℕ) where
  -- n records from record i on
  records_ok : (n i e : ℕ) → records size good fault bs p n i ≡ Ok e
      → (e ≡ p + size * (i + n)) × (0 < n → p + size * (i + n) ≤ length bs) × ((j : ℕ) → i ≤ j → j < i + n → good j ≡ true)
  unfolding records
  records_ok zero i e h =
      let at : i ≡ i + 0 = omega arith in
      let end : p + size * i ≡ e = cc in
      (sym end ∙ ap (λ m. p + size * m) at, λ l. absurd (omega arith), λ j a b. absurd (omega arith))
  records_ok (suc n) i e h =
      let whole = unless (ltb (length bs) (p + size * i + size)) (EndsEarly (length bs)) _ e h in
      let kept = provided (good i) (fault (p + size * i)) (records size good fault bs p n (i + 1)) e whole.1 in
      let rest = records_ok n (i + 1) e kept.1 in
      let same : i + 1 + n ≡ i + suc n = omega arith in
      let ends : p + size * (i + 1) ≤ length bs = omega (arith, ltb-false (length bs) (p + size * i + size) whole.0, mul-add size i 1) in (
        rest.0 ∙ ap (λ m. p + size * m) same,
        (λ _. ⊎_elim
            (λ (z : n ≡ 0). let one : i + 1 ≡ i + suc n = omega arith in subst (λ m. p + size * m ≤ length bs) one ends)
            (λ (z : n ≡ 0 → ⊥). subst (λ m. p + size * m ≤ length bs) same (rest.1 (omega arith)))
            (cases_eq n 0)),
        (λ j a b. ⊎_elim
            (λ (d : j ≡ i). ap good d ∙ kept.0)
            (λ (d : j ≡ i → ⊥). rest.2 j (omega arith) (omega arith))
            (cases_eq j i)),
      )

  records_from : (n i : ℕ) → p + size * (i + n) ≤ length bs → ((j : ℕ) → i ≤ j → j < i + n → good j ≡ true) → records size good fault bs p n i ≡ Ok (p + size * (i + n))
  unfolding records
  records_from zero i l g = ap (λ m. Ok (p + size * m)) (omega arith)
  records_from (suc n) i l g =
      let same : i + 1 + n ≡ i + suc n = omega arith in
      let grows : size * (i + suc n) ≡ size * i + size * suc n = mul-add size i (suc n) in
      let fits : p + size * i + size ≤ length bs = omega (arith, mul-suc size n) in
      cond-false (ltb (length bs) (p + size * i + size)) _ _ (le-ltb (length bs) (p + size * i + size) fits)
      ∙ cond-true (good i) _ _ (g i (omega arith) (omega arith))
      ∙ records_from n (i + 1) (subst (λ m. p + size * m ≤ length bs) (sym same) l) (λ j a b. g j (omega arith) (omega arith))
      ∙ ap (λ m. Ok (p + size * m)) same

-- a section that is walked to its end: its count stands in the file and in its range, its records are whole and good
pub record Whole (low high size : ℕ) (good : ℕ → Bool) (bs : List ℕ) (p : ℕ) : Type 0 where
  pub starts : p < length bs
  pub some : low ≤ byte bs p
  pub few : byte bs p ≤ high
  pub whole : p + 1 + size * byte bs p ≤ length bs
  pub kept : (j : ℕ) → j < byte bs p → good j ≡ true

module _ (low high size : ℕ) (good : ℕ → Bool) (fault : ℕ → ChartFault) (bs : List ℕ) (p : ℕ) where
  pub section_ok : (e : ℕ) → section low high size good fault bs p ≡ Ok e → (e ≡ p + 1 + size * byte bs p) × Whole low high size good bs p
  section_ok e h =
      let both = both_ok (counted low high bs p) (λ n. records size good fault bs (p + 1) n 0) e h in
      let begins = unless (leb (length bs) p) (EndsEarly (length bs)) _ both.0 both.1 in
      let ranged = provided (leb low (byte bs p) && leb (byte bs p) high) (CountOutOfRange p) (Ok (byte bs p)) both.0 begins.1 in
      let range = and_parts (leb low (byte bs p)) (leb (byte bs p) high) ranged.0 in
      let count : both.0 ≡ 0 + byte bs p = let same : byte bs p ≡ both.0 = cc ranged.1 in omega arith in
      let starts = leb-false (length bs) p begins.0 in
      let walked = records_ok size good fault bs (p + 1) both.0 0 e both.2 in
      let from : 0 + both.0 ≡ byte bs p = omega arith in (
        walked.0 ∙ ap (λ m. p + 1 + size * m) from,
        record {
          starts = starts;
          some = leb-true low (byte bs p) range.0;
          few = leb-true (byte bs p) high range.1;
          whole = ⊎_elim
              (λ (z : byte bs p ≡ 0). let none : size * byte bs p ≡ 0 = ap (λ m. size * m) z ∙ mul-zero size in omega arith)
              (λ (d : byte bs p ≡ 0 → ⊥). subst (λ m. p + 1 + size * m ≤ length bs) from (walked.1 (omega arith)))
              (cases_eq (byte bs p) 0);
          kept = λ j l. walked.2 j (omega arith) (omega arith);
        },
      )

  pub section_from : Whole low high size good bs p → section low high size good fault bs p ≡ Ok (p + 1 + size * byte bs p)
  section_from w =
      let from : 0 + byte bs p ≡ byte bs p = omega arith in
      both_from (counted low high bs p) (λ n. records size good fault bs (p + 1) n 0) (byte bs p) (p + 1 + size * byte bs p)
      (cond-false (leb (length bs) p) _ _ (lt-leb (length bs) p w.starts)
      ∙ cond-true (leb low (byte bs p) && leb (byte bs p) high) _ _ (and_from (leb low (byte bs p)) (leb (byte bs p) high) (le-leb low (byte bs p) w.some) (le-leb (byte bs p) high w.few)))
      (records_from size good fault bs (p + 1) (byte bs p) 0 (subst (λ m. p + 1 + size * m ≤ length bs) (sym from) w.whole) (λ j _ l. w.kept j (omega arith))
      ∙ ap (λ m. Ok (p + 1 + size * m)) from)
