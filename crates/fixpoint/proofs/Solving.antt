-- What the solver keeps true from turn to turn, and why it ends. Assumes nothing.
use Rattle.std.proofs.Common.{◌≡◌, ℕ, ◌+◌, ◌-◌, ◌*◌, ◌<◌, ◌≤◌, Bool, true, false, ◌&&◌, ◌||◌, ltb, List, length, take, drop, set, sum_by, sym, ap, ◌∙◌, subst, ⊎_elim, arith}
use base.Stored.{Coded}
use Rattle.std.proofs.lemmas.List.{length-set, length-take-le, get_or-set_same, get_or-set_other, drop-set-lt}
use Rattle.std.proofs.lemmas.List.Sums.{sum_by-set, sum_by-take-drop}
use Rattle.std.proofs.lemmas.Bool.{both_ways, cases_eq, ne_eqb, lt-ltb, or_parts}
use Rattle.std.proofs.lemmas.Bool.Decides.{nat_tests}
use Rattle.fixpoint.specs.Solver.{Raised, Solved, raised, readers}
use Rattle.fixpoint.specs.System.{Equations, Laws, Below, BelowAll, Assignment, Closed, place}
use Rattle.fixpoint.specs.Worklist.{tally, without_number}
use Rattle.fixpoint.proofs.Lattice.{below_trans, below_join_right, join_below}
use Rattle.fixpoint.proofs.Leastness.{least_first, least_solved, ranks_bounded}
use Rattle.fixpoint.proofs.Tally.{tally_le, tally_same, tally_without}

-- the area lies below every closed assignment, each equation that does not wait is closed, and the other places are untouched
pub record Working {E : Type 0} (s : Equations E) (before area : List E) (waiting : ℕ → Bool) : Type 0 where
  pub long : Assignment s area
  pub low : (xs : List E) → Assignment s xs → Closed s xs → BelowAll s area xs
  pub closed : (i : ℕ) → i < s.count → waiting i ≡ false → Below s (s.evaluate i area) (place s area i)
  pub rest : drop s.count area ≡ drop s.count before

-- what did not wait after another number was taken did not wait before
still_idle : (waiting taken : ℕ → Bool) (i j : ℕ) → taken j ≡ without_number i waiting j → taken j ≡ false → (j ≡ i → ⊥) → waiting j ≡ false
still_idle waiting taken i j took idle d = let e = ne_eqb j i d in grind (arith, nat_tests)

-- an equation that is no reader does not read
unread_from : (n j : ℕ) (reads : Bool) → j < n → (ltb j n && reads) ≡ false → reads ≡ false
unread_from n j reads h e = let t = lt-ltb j n h in grind (arith, nat_tests)

-- what the ranks of the area can still rise by, and then how many wait
abbrev pub left : {E : Type 0} → Equations E → List E → (ℕ → Bool) → ℕ
left s area waiting = (s.count * s.height - sum_by s.rank (take s.count area)) * 129 + tally waiting 128

module _ {E : Type 0} (s : Equations E) (laws : Laws s) where
  -- when nothing waits any more, the system is solved
  pub working_end : Coded E → (first before area : List E) (waiting : ℕ → Bool) → Working s before area waiting
      → drop s.count before ≡ drop s.count first → ((j : ℕ) → waiting j ≡ false) → Solved s first area waiting
  working_end c first before area waiting w rest idle =
      let closed : Closed s area = λ i h. w.closed i h (idle i) in
      record {
        holds_least = least_first s laws c area w.long closed w.low;
        solution = least_solved s laws c area w.long closed w.low;
        lowest = w.low;
        untouched = w.rest ∙ rest;
        idle = idle;
      }

  -- a number is taken whose place already holds what its equation gives
  working_same : (before area : List E) (waiting taken waiting' : ℕ → Bool) (i : ℕ) → Working s before area waiting
      → ((j : ℕ) → taken j ≡ without_number i waiting j) → raised s area i ≡ place s area i → ((j : ℕ) → waiting' j ≡ taken j)
      → Working s before area waiting'
  working_same before area waiting taken waiting' i w took same waits = record {
    long = w.long;
    low = w.low;
    closed = λ j h n. ⊎_elim
        (λ (e : j ≡ i). subst (λ k. Below s (s.evaluate k area) (place s area k)) (sym e) (laws.commutative (s.evaluate i area) (place s area i) ∙ same))
        (λ (d : j ≡ i → ⊥). w.closed j h (still_idle waiting taken i j (took j) (sym (waits j) ∙ n) d))
        (cases_eq j i);
    rest = w.rest;
  }

  module _ (before area : List E) (waiting : ℕ → Bool) (w : Working s before area waiting) (i : ℕ) (l : i < s.count) where
    here : place s (set area i (raised s area i)) i ≡ raised s area i
    here = let long = w.long in get_or-set_same area i (raised s area i) s.bottom (omega arith)

    elsewhere : (j : ℕ) → (j ≡ i → ⊥) → place s (set area i (raised s area i)) j ≡ place s area j
    elsewhere j d = get_or-set_other area i j (raised s area i) s.bottom d

    kept_long : Assignment s (set area i (raised s area i))
    kept_long = let long = w.long in omega (arith, length-set area i (raised s area i))

    -- the raised place still lies below every closed assignment
    raised_low : (xs : List E) → Assignment s xs → Closed s xs → BelowAll s (set area i (raised s area i)) xs
    raised_low xs long closed k h = ⊎_elim
        (λ (e : k ≡ i).
        let up = laws.monotone area xs w.long long (w.low xs long closed) i in
        let top = below_trans s laws (s.evaluate i area) (s.evaluate i xs) (place s xs i) up (closed i l) in
        subst (λ m. Below s (place s (set area i (raised s area i)) m) (place s xs m)) (sym e)
        (subst (λ x. Below s x (place s xs i)) (sym here)
        (join_below s laws (place s area i) (s.evaluate i area) (place s xs i) (w.low xs long closed i l) top)))
        (λ (d : k ≡ i → ⊥). subst (λ x. Below s x (place s xs k)) (sym (elsewhere k d)) (w.low xs long closed k h))
        (cases_eq k i)

    -- an equation that does not read the raised place keeps its value
    unread : (j : ℕ) → s.reads j i ≡ false → s.evaluate j (set area i (raised s area i)) ≡ s.evaluate j area
    unread j n = laws.local (set area i (raised s area i)) area kept_long w.long j (λ m r. elsewhere m (λ e. both_ways (s.reads j i) n (ap (s.reads j) (sym e) ∙ r)))

    -- a number is taken, its place changes, and its readers wait
    working_changed : (taken waiting' : ℕ → Bool) → ((j : ℕ) → taken j ≡ without_number i waiting j)
        → ((j : ℕ) → waiting' j ≡ (taken j || readers s i j)) → Working s before (set area i (raised s area i)) waiting'
    working_changed taken waiting' took waits = record {
      long = kept_long;
      low = raised_low;
      closed = λ j h n.
          let idle = or_parts (taken j) (readers s i j) (sym (waits j) ∙ n) in
          let value = unread j (unread_from s.count j (s.reads j i) h idle.1) in
          ⊎_elim
          (λ (e : j ≡ i).
          subst (λ x. Below s x (place s (set area i (raised s area i)) j)) (sym value)
          (subst (λ k. Below s (s.evaluate k area) (place s (set area i (raised s area i)) k)) (sym e)
          (subst (Below s (s.evaluate i area)) (sym here) (below_join_right s laws (place s area i) (s.evaluate i area)))))
          (λ (d : j ≡ i → ⊥).
          subst (λ x. Below s x (place s (set area i (raised s area i)) j)) (sym value)
          (subst (Below s (s.evaluate j area)) (sym (elsewhere j d)) (w.closed j h (still_idle waiting taken i j (took j) idle.0 d))))
          (cases_eq j i);
      rest = drop-set-lt s.count area i (raised s area i) l ∙ w.rest;
    }

  -- a number is taken and its place raised
  pub working_raised : (before area after : List E) (waiting taken waiting' : ℕ → Bool) (i : ℕ) → i < s.count → Working s before area waiting
      → ((j : ℕ) → taken j ≡ without_number i waiting j) → Raised s i area taken after waiting' → Working s before after waiting'
  working_raised before area after waiting taken waiting' i l w took r = ⊎_elim
      (λ t. subst (λ xs. Working s before xs waiting') (sym t.1) (working_same before area waiting taken waiting' i w took t.0 t.2))
      (λ t. subst (λ xs. Working s before xs waiting') (sym t.1) (working_changed before area waiting w i l taken waiting' took t.2))
      r

  -- a number that is taken is one less that waits
  pub left_dropped : (area : List E) (waiting waiting' : ℕ → Bool) (i : ℕ) → i < 128 → waiting i ≡ true
      → ((j : ℕ) → waiting' j ≡ without_number i waiting j) → left s area waiting' < left s area waiting
  left_dropped area waiting waiting' i few was took = omega (arith, tally_without waiting waiting' i 128 few was took)

  -- a place that changes raises the ranks
  ranks_raised : (area : List E) (i : ℕ) → Assignment s area → i < s.count → (raised s area i ≡ place s area i → ⊥)
      → sum_by s.rank (take s.count area) < sum_by s.rank (take s.count (set area i (raised s area i)))
  ranks_raised area i long l changed =
      let value = raised s area i in
      let inside : i < length area = omega arith in
      let rest : sum_by s.rank (drop s.count (set area i value)) ≡ sum_by s.rank (drop s.count area) = ap (sum_by s.rank) (drop-set-lt s.count area i value l) in
      omega (
        arith,
        sum_by-take-drop s.rank area s.count,
        sum_by-take-drop s.rank (set area i value) s.count,
        sum_by-set s.rank area i value s.bottom inside,
        laws.rises (place s area i) (s.evaluate i area) changed,
      )

  pub left_raised : (area after : List E) (waiting taken waiting' : ℕ → Bool) (i : ℕ) → Assignment s area → i < s.count → i < 128 → waiting i ≡ true
      → ((j : ℕ) → taken j ≡ without_number i waiting j) → Raised s i area taken after waiting' → left s after waiting' < left s area waiting
  left_raised area after waiting taken waiting' i long l few was took r = ⊎_elim
      (λ t. let same = tally_same taken waiting' 128 (λ j _. t.2 j) in
      omega (arith, ap (λ xs. left s xs waiting') t.1, left_dropped area waiting taken i few was took))
      (λ t.
      let up = ranks_raised area i long l t.0 in
      let lasts : length (take s.count (set area i (raised s area i))) ≡ s.count = length-take-le s.count (set area i (raised s area i)) (omega (arith, length-set area i (raised s area i))) in
      let top : sum_by s.rank (take s.count (set area i (raised s area i))) ≤ s.count * s.height =
      subst (λ n. sum_by s.rank (take s.count (set area i (raised s area i))) ≤ n * s.height) lasts (ranks_bounded s laws (take s.count (set area i (raised s area i)))) in
      omega (arith, ap (λ xs. left s xs waiting') t.1, tally_le waiting' 128))
      r
