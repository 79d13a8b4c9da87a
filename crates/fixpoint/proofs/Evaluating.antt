-- Evaluations that are the bottom unless there are such an equation and places enough, and assignments of which only the first places count. Assumes nothing.
use Rattle.std.proofs.Common.{◌≡◌, ℕ, ◌<◌, ◌≤◌, cond, ◌&&◌, ltb, leb, List, length, get_or, take, sym, subst, ⊎_elim, arith}
use Rattle.std.proofs.lemmas.List.{get_or_past, get_or-take, length-take}
use Rattle.std.proofs.lemmas.Bool.{and_from, and_left, and_right, cases_lt, cond-false, cond-true, le-leb, le-ltb, lt-leb, lt-ltb}

-- the value of equation i of n, on an assignment with enough places
abbrev pub given : {E : Type 0} → E → ℕ → ℕ → (List E → E) → List E → E
given bottom n i value xs = cond (ltb i n && leb n (length xs)) (value xs) bottom

module _ {E : Type 0} (bottom : E) (n i : ℕ) (value : List E → E) where
  -- there is no such equation
  pub given_beyond : (xs : List E) → n ≤ i → given bottom n i value xs ≡ bottom
  given_beyond xs l = cond-false (ltb i n && leb n (length xs)) (value xs) bottom (and_left (ltb i n) (leb n (length xs)) (le-ltb i n l))

  -- there are too few places
  pub given_short : (xs : List E) → length xs < n → given bottom n i value xs ≡ bottom
  given_short xs l = cond-false (ltb i n && leb n (length xs)) (value xs) bottom (and_right (ltb i n) (leb n (length xs)) (lt-leb n (length xs) l))

  -- there is one, and there are places enough
  pub given_is : (xs : List E) → i < n → n ≤ length xs → given bottom n i value xs ≡ value xs
  given_is xs l m = cond-true (ltb i n && leb n (length xs)) (value xs) bottom (and_from (ltb i n) (leb n (length xs)) (lt-ltb i n l) (le-leb n (length xs) m))

  -- values that are related are so as evaluations
  pub given_related : (R : E → E → Type 0) → R bottom bottom → (xs ys : List E) → n ≤ length xs → n ≤ length ys
      → (i < n → R (value xs) (value ys)) → R (given bottom n i value xs) (given bottom n i value ys)
  given_related R blank xs ys p q h = ⊎_elim
      (λ (l : i < n). subst (λ a. R a (given bottom n i value ys)) (sym (given_is xs l p)) (subst (R (value xs)) (sym (given_is ys l q)) (h l)))
      (λ (l : n ≤ i). subst (λ a. R a (given bottom n i value ys)) (sym (given_beyond xs l)) (subst (R bottom) (sym (given_beyond ys l)) blank))
      (cases_lt i n)

-- assignments that are related at a place that counts, where beyond those places each has the bottom
pub taken_related : {E : Type 0} (bottom : E) (R : E → E → Type 0) → R bottom bottom → (n : ℕ) (xs ys : List E) (j : ℕ)
    → (j < n → R (get_or xs j bottom) (get_or ys j bottom)) → R (get_or (take n xs) j bottom) (get_or (take n ys) j bottom)
taken_related {E = E} bottom R blank n xs ys j h = ⊎_elim
    (λ (l : j < n).
    subst (λ a. R a (get_or (take n ys) j bottom)) (sym (get_or-take n xs j bottom l)) (subst (R (get_or xs j bottom)) (sym (get_or-take n ys j bottom l)) (h l)))
    (λ (l : n ≤ j).
    let past : (zs : List E) → get_or (take n zs) j bottom ≡ bottom = λ zs. get_or_past (take n zs) j bottom (omega (arith, length-take n zs)) in
    subst (λ a. R a (get_or (take n ys) j bottom)) (sym (past xs)) (subst (R bottom) (sym (past ys)) blank))
    (cases_lt j n)
