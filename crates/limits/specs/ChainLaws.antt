-- The equations of a chain keep the laws. Assumes nothing.
use Rattle.std.specs.Prelude.{◌≡◌, ℕ, ◌-◌, ◌<◌, ◌≤◌, Bool, true, false, cond, ◌&&◌, ◌||◌, List, length, ◌==◌, ◌≢◌, nat_le, nat_lt, slice_index_or, refl}
use Rattle.std.proofs.Common.{sym, ap, ◌∙◌, subst, ⊎_elim, arith, lit<, lit≤}
use Rattle.std.proofs.Math.Bool.{or_assoc, or_comm, or_self}
use Rattle.std.proofs.lemmas.Bool.{and_left, and_right, and_from, le-ltb, lt-ltb, le-leb, lt-leb, eq-eqb, ne_eqb, cases_lt}
use Rattle.fixpoint.specs.System.{Laws}
use Rattle.limits.specs.Chain.{link, chain_equations}

rises : (a b : Bool) → ((a || b) ≢ a) → cond a 1 0 < cond (a || b) 1 0
rises true b differs = absurd (differs refl)
rises false true differs = lit< tt
rises false false differs = absurd (differs refl)

bounded : (a : Bool) → cond a 1 0 ≤ 1
bounded true = lit≤ tt
bounded false = lit≤ tt

module _ (n : ℕ) where
  beyond : (i : ℕ) (xs : List Bool) → n ≤ i → (chain_equations n).evaluate i xs ≡ false
  beyond i xs l = and_left (nat_lt i n && nat_le n (length xs)) (link i xs) (and_left (nat_lt i n) (nat_le n (length xs)) (le-ltb i n l))

  short : (i : ℕ) (xs : List Bool) → length xs < n → (chain_equations n).evaluate i xs ≡ false
  short i xs l = and_left (nat_lt i n && nat_le n (length xs)) (link i xs) (and_right (nat_lt i n) (nat_le n (length xs)) (lt-leb n (length xs) l))

  -- on an assignment each equation gives what its link says
  linked : (i : ℕ) (xs : List Bool) → i < n → n ≤ length xs → (chain_equations n).evaluate i xs ≡ link i xs
  linked i xs l m = ap (λ b. b && link i xs) (and_from (nat_lt i n) (nat_le n (length xs)) (lt-ltb i n l) (le-leb n (length xs) m))

  first_link : (i : ℕ) (xs : List Bool) → i ≡ 0 → link i xs ≡ true
  first_link i xs e = ap (λ b. b || slice_index_or xs (i - 1) false) (eq-eqb i 0 e)

  next_link : (i : ℕ) (xs : List Bool) → 0 < i → link i xs ≡ slice_index_or xs (i - 1) false
  next_link i xs l = ap (λ b. b || slice_index_or xs (i - 1) false) (ne_eqb i 0 (λ e. omega arith))

  within : (i j : ℕ) → n ≤ j → (chain_equations n).reads i j ≡ false
  within i j l = ⊎_elim
      (λ (m : i < n). and_right (nat_lt i n) (nat_lt 0 i && j == i - 1) (and_right (nat_lt 0 i) (j == i - 1) (ne_eqb j (i - 1) (λ e. omega arith))))
      (λ (m : n ≤ i). and_left (nat_lt i n) (nat_lt 0 i && j == i - 1) (le-ltb i n m))
      (cases_lt i n)

  reads_before : (i : ℕ) → i < n → 0 < i → (chain_equations n).reads i (i - 1) ≡ true
  reads_before i l m = and_from (nat_lt i n) (nat_lt 0 i && i - 1 == i - 1) (lt-ltb i n l)
      (and_from (nat_lt 0 i) (i - 1 == i - 1) (lt-ltb 0 i m) (eq-eqb (i - 1) (i - 1) refl))

  -- assignments that are related at what equation i reads give it related values
  related : (R : Bool → Bool → Type 0) → ((a : Bool) → R a a) → (xs ys : List Bool) → n ≤ length xs → n ≤ length ys → (i : ℕ)
      → (i < n → 0 < i → R (slice_index_or xs (i - 1) false) (slice_index_or ys (i - 1) false))
      → R ((chain_equations n).evaluate i xs) ((chain_equations n).evaluate i ys)
  related R same xs ys p q i h = ⊎_elim
      (λ (l : i < n). ⊎_elim
      (λ (m : 0 < i). at (linked i xs l p ∙ next_link i xs m) (linked i ys l q ∙ next_link i ys m) (h l m))
      (λ (m : i ≤ 0). at (linked i xs l p ∙ first_link i xs (omega arith)) (linked i ys l q ∙ first_link i ys (omega arith)) (same true))
      (cases_lt 0 i))
      (λ (l : n ≤ i). at (beyond i xs l) (beyond i ys l) (same false))
      (cases_lt i n)
    where
      at : {a b c d : Bool} → a ≡ c → b ≡ d → R c d → R a b
      at {a} {b} {c} {d} e f r = subst (λ x. R x b) (sym e) (subst (R c) (sym f) r)

pub chain_laws : (n : ℕ) → n ≤ 128 → Laws (chain_equations n)
chain_laws n few = record {
  associative = or_assoc;
  commutative = or_comm;
  idempotent = or_self;
  neutral = λ a. refl;
  rises = rises;
  bounded = bounded;
  few = few;
  beyond = beyond n;
  short = short n;
  within = within n;
  monotone = λ xs ys p q h i. related n (λ a b. (a || b) ≡ b) or_self xs ys p q i (λ l m. h (i - 1) (omega arith));
  local = λ xs ys p q i h. related n (λ a b. a ≡ b) (λ a. refl) xs ys p q i (λ l m. h (i - 1) (reads_before n i l m));
}
