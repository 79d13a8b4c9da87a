-- The rounds from bottoms alone rise, stay below every closed assignment, and end in a solution. Assumes nothing.
use Rattle.std.proofs.Common.{◌≡◌, ℕ, zero, suc, ◌*◌, ◌<◌, ◌≤◌, true, ◌⊎◌, List, [], ◌∷◌, length, get_or, take, sum_by, sym, refl, ap, ◌∙◌, subst, inl, inr, ⊎_elim, arith}
use base.Stored.{Coded}
use Rattle.std.proofs.lemmas.List.{length-replicate, get_or-replicate, length-take-le, get_or-take, get_or_default, same_lists}
use Rattle.std.proofs.lemmas.List.FromFn.{length-map-range_with_len, get_or-map-range_with_len}
use Rattle.std.proofs.ByRecursion.{All-from_get_or, sum_by_le}
use Rattle.std.proofs.lemmas.List.Sums.{sum_by-cons}
use Rattle.std.proofs.lemmas.Bool.{both_ways, cases_lt}
use Rattle.fixpoint.specs.System.{Equations, Laws, Below, BelowAll, Assignment, Closed, Solution, place, round, rounds, least}
use Rattle.fixpoint.proofs.Lattice.{below_antisym, below_trans, rank_below}

module _ {E : Type 0} (s : Equations E) (laws : Laws s) where
  -- how high the places of a list stand together
  pub ranks_bounded : (xs : List E) → sum_by s.rank xs ≤ length xs * s.height
  ranks_bounded xs = sum_by_le s.rank s.height xs (All-from_get_or (λ x. s.rank x ≤ s.height) xs s.bottom (λ i h. laws.bounded (get_or xs i s.bottom)))

  pub length_rounds : (m : ℕ) → length (rounds s m) ≡ s.count
  unfolding rounds
  length_rounds zero = length-replicate s.count s.bottom
  length_rounds (suc m) = length-map-range_with_len (λ i. s.evaluate i (rounds s m)) 0 s.count

  assigned : (m : ℕ) → Assignment s (rounds s m)
  assigned m = omega (arith, length_rounds m)

  place_round : (xs : List E) (i : ℕ) → i < s.count → place s (round s xs) i ≡ s.evaluate i xs
  place_round xs i h = get_or-map-range_with_len (λ j. s.evaluate j xs) 0 s.count i i s.bottom h (omega arith)

  -- a solution is closed
  pub solution_closed : (xs : List E) → Solution s xs → Closed s xs
  solution_closed xs solved i h = subst (Below s (s.evaluate i xs)) (solved i h) (laws.idempotent (s.evaluate i xs))

  -- each round lies below every closed assignment
  pub rounds_below : (xs : List E) → Assignment s xs → Closed s xs → (m : ℕ) → BelowAll s (rounds s m) xs
  unfolding rounds
  rounds_below xs long closed zero k h =
      subst (λ x. Below s x (place s xs k)) (sym (get_or-replicate s.count k s.bottom s.bottom h)) (laws.neutral (place s xs k))
  rounds_below xs long closed (suc m) k h =
      let up = laws.monotone (rounds s m) xs (assigned m) long (rounds_below xs long closed m) k in
      subst (λ x. Below s x (place s xs k)) (sym (place_round (rounds s m) k h))
      (below_trans s laws (s.evaluate k (rounds s m)) (s.evaluate k xs) (place s xs k) up (closed k h))

  -- each round lies below the next
  rounds_rise : (m : ℕ) → BelowAll s (rounds s m) (rounds s (suc m))
  unfolding rounds
  rounds_rise zero k h =
      subst (λ x. Below s x (place s (round s (rounds s zero)) k)) (sym (get_or-replicate s.count k s.bottom s.bottom h)) (laws.neutral _)
  rounds_rise (suc m) k h =
      let up = laws.monotone (rounds s m) (rounds s (suc m)) (assigned m) (assigned (suc m)) (rounds_rise m) k in
      subst (λ x. Below s x (place s (round s (round s (rounds s m))) k)) (sym (place_round (rounds s m) k h))
      (subst (λ x. Below s (s.evaluate k (rounds s m)) x) (sym (place_round (round s (rounds s m)) k h)) up)

  -- of two lists, the lower before the higher: they are the same, or the ranks rise
  ranks_rise : Coded E → (xs ys : List E) → length xs ≡ length ys
      → ((k : ℕ) → k < length xs → Below s (place s xs k) (place s ys k))
      → (xs ≡ ys) ⊎ (sum_by s.rank xs < sum_by s.rank ys)
  ranks_rise c [] [] long below = inl refl
  ranks_rise c [] (y ∷ ys) long below = absurd (omega arith)
  ranks_rise c (x ∷ xs) [] long below = absurd (omega arith)
  ranks_rise c (x ∷ xs) (y ∷ ys) long below =
      let p = sum_by-cons s.rank x xs in
      let q = sum_by-cons s.rank y ys in
      ⊎_elim
      (λ (e : x ≡ y). ⊎_elim
      (λ (f : xs ≡ ys). inl (λ k. e k ∷ f k))
      (λ (l : sum_by s.rank xs < sum_by s.rank ys). inr (omega (arith, ap s.rank e)))
      (ranks_rise c xs ys (omega arith) (λ k h. below (suc k) (omega arith))))
      (λ (l : s.rank x < s.rank y). inr (⊎_elim
      (λ (f : xs ≡ ys). omega (arith, ap (sum_by s.rank) f))
      (λ (m : sum_by s.rank xs < sum_by s.rank ys). omega arith)
      (ranks_rise c xs ys (omega arith) (λ k h. below (suc k) (omega arith)))))
      (rank_below s laws c x y (below 0 (omega arith)))

  next : Coded E → (m : ℕ) → (rounds s m ≡ rounds s (suc m)) ⊎ (sum_by s.rank (rounds s m) < sum_by s.rank (rounds s (suc m)))
  next c m = ranks_rise c (rounds s m) (rounds s (suc m)) (length_rounds m ∙ sym (length_rounds (suc m))) (λ k h. rounds_rise m k (omega (arith, length_rounds m)))

  -- a round that changes nothing is followed by one that changes nothing
  again : (m : ℕ) → rounds s m ≡ rounds s (suc m) → rounds s (suc m) ≡ rounds s (suc (suc m))
  unfolding rounds
  again m e = ap (round s) e

  -- after m rounds nothing changes any more, or the ranks have come to m
  climbs : Coded E → (m : ℕ) → (rounds s m ≡ rounds s (suc m)) ⊎ (m ≤ sum_by s.rank (rounds s m))
  climbs c zero = inr (omega arith)
  climbs c (suc m) = ⊎_elim
      (λ (e : rounds s m ≡ rounds s (suc m)). inl (again m e))
      (λ (l : m ≤ sum_by s.rank (rounds s m)). ⊎_elim
      (λ (e : rounds s m ≡ rounds s (suc m)). inl (again m e))
      (λ (r : sum_by s.rank (rounds s m) < sum_by s.rank (rounds s (suc m))). inr (omega arith))
      (next c m))
      (climbs c m)

  -- the last round changes nothing
  pub least_stays : Coded E → least s ≡ rounds s (suc (s.count * s.height))
  least_stays c = let m = s.count * s.height in ⊎_elim
      (λ (e : rounds s m ≡ rounds s (suc m)). e)
      (λ (l : m ≤ sum_by s.rank (rounds s m)). ⊎_elim
      (λ (e : rounds s m ≡ rounds s (suc m)). e)
      (λ (r : sum_by s.rank (rounds s m) < sum_by s.rank (rounds s (suc m))).
      let top = ranks_bounded (rounds s (suc m)) in
      let long = length_rounds (suc m) in
      absurd (omega (arith, ap (λ n. n * s.height) long)))
      (next c m))
      (climbs c m)

  pub least_solution : Coded E → Solution s (least s)
  unfolding rounds
  least_solution c i h = sym (place_round (least s) i h) ∙ ap (λ xs. place s xs i) (sym (least_stays c))

  -- an assignment that is closed and lies below every closed one is the least solution
  pub least_unique : Coded E → (xs : List E) → Assignment s xs → Closed s xs
      → ((ys : List E) → Assignment s ys → Closed s ys → BelowAll s xs ys)
      → (k : ℕ) → k < s.count → place s xs k ≡ place s (least s) k
  least_unique c xs long closed low k h =
      let m = s.count * s.height in
      below_antisym s laws _ _ (low (least s) (assigned m) (solution_closed (least s) (least_solution c)) k h) (rounds_below xs long closed m k h)

  pub least_first : Coded E → (xs : List E) → Assignment s xs → Closed s xs
      → ((ys : List E) → Assignment s ys → Closed s ys → BelowAll s xs ys)
      → take s.count xs ≡ least s
  least_first c xs long closed low =
      let top = length_rounds (s.count * s.height) in
      let short = length-take-le s.count xs long in
      same_lists (take s.count xs) (least s) (short ∙ sym top) (λ k d h.
      let h' : k < s.count = omega arith in
      get_or-take s.count xs k d h' ∙ get_or_default xs k d s.bottom (omega arith)
      ∙ least_unique c xs long closed low k h' ∙ get_or_default (least s) k s.bottom d (omega arith))

  pub least_solved : Coded E → (xs : List E) → Assignment s xs → Closed s xs
      → ((ys : List E) → Assignment s ys → Closed s ys → BelowAll s xs ys)
      → Solution s xs
  least_solved c xs long closed low i h =
      let agree : (j : ℕ) → s.reads i j ≡ true → place s xs j ≡ place s (least s) j = λ j r. ⊎_elim
      (λ (l : j < s.count). least_unique c xs long closed low j l)
      (λ (l : s.count ≤ j). absurd (both_ways (s.reads i j) (laws.within i j l) r))
      (cases_lt j s.count) in
      laws.local xs (least s) long (assigned (s.count * s.height)) i agree ∙ least_solution c i h ∙ sym (least_unique c xs long closed low i h)
