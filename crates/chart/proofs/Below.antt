-- What `all_below` tells. Assumes nothing.
use Rattle.std.proofs.Common.{◌≡◌, ℕ, zero, suc, ◌+◌, ◌<◌, Bool, true, ◌&&◌, [], ◌∷◌, map, Decides, sym, refl, ap, ◌∙◌, arith}
use Rattle.std.proofs.Math.Bool.{and_comm, and-true}
use Rattle.std.specs.List.{enumerate_from, list_all, range_with_len}
use Rattle.std.proofs.lemmas.List.Folds.{list_all-append}
use Rattle.std.proofs.lemmas.List.FromFn.{map-range_with_len_more}
use Rattle.std.proofs.lemmas.Bool.Decides.{Decides-below_and, same_from_decides}
use Rattle.chart.specs.Check.{all_below}

-- where a test decides a fact, all_below decides that it holds of each number below n
pub all_below_decides : (p : ℕ → Bool) (P : ℕ → Type 0) → ((k : ℕ) → Decides (p k) (P k)) → (n : ℕ) → Decides (all_below p n) ((k : ℕ) → k < n → P k)
unfolding all_below
all_below_decides p P each n = Decides-below_and p P (all_below p) each refl (λ _. refl) n

-- all_below gives the test at each number below n
pub all_below_true : (p : ℕ → Bool) (n : ℕ) → all_below p n ≡ true → (k : ℕ) → k < n → p k ≡ true
all_below_true p n = (all_below_decides p (λ k. p k ≡ true) (λ k. (λ e. e, λ e. e)) n).0

-- the test at each number below n gives all_below
pub all_below_from : (p : ℕ → Bool) (n : ℕ) → ((k : ℕ) → k < n → p k ≡ true) → all_below p n ≡ true
all_below_from p n = (all_below_decides p (λ k. p k ≡ true) (λ k. (λ e. e, λ e. e)) n).1

-- a result that says whether each number below n passes is all_below
pub all_below_is : (p : ℕ → Bool) (n : ℕ) (r : Bool) → Decides r ((k : ℕ) → k < n → p k ≡ true) → r ≡ all_below p n
all_below_is p n r d = same_from_decides r (all_below p n) d (all_below_decides p (λ k. p k ≡ true) (λ k. (λ e. e, λ e. e)) n)

-- tests that agree below n
pub all_below_same : (p q : ℕ → Bool) (n : ℕ) → ((k : ℕ) → k < n → p k ≡ q k) → all_below p n ≡ all_below q n
all_below_same p q n same = all_below_is q n (all_below p n) (λ e k l. sym (same k l) ∙ all_below_true p n e k l, λ f. all_below_from p n (λ k l. same k l ∙ f k l))

-- the test of each element of a list that is made from the numbers below n
pub made_passes : {X : Type 0} (q : X → Bool) (f : ℕ → X) (n : ℕ) → list_all q (map f (range_with_len 0 n)) ≡ all_below (λ k. q (f k)) n
unfolding all_below
made_passes q f zero = refl
made_passes q f (suc n) =
    let next : suc n ≡ n + 1 = omega arith in
    ap (λ m. list_all q (map f (range_with_len 0 m))) next
    ∙ ap (list_all q) (map-range_with_len_more f 0 n n (omega arith))
    ∙ list_all-append q (map f (range_with_len 0 n)) (f n ∷ [])
    ∙ and_comm (list_all q (map f (range_with_len 0 n))) (q (f n) && true)
    ∙ (λ i. and-true (q (f n)) i && made_passes q f n i)

-- such a list with its numbers
pub numbered : {X : Type 0} (f : ℕ → X) (a n : ℕ) → enumerate_from a (map f (range_with_len a n)) ≡ map (λ k. (k, f k)) (range_with_len a n)
numbered f a zero = refl
numbered f a (suc n) = ap (λ xs. (a, f a) ∷ xs) (numbered f (a + 1) n)
