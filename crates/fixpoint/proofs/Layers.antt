-- Up to eight numbers over another worklist: what putting and taking do to the union. Assumes nothing.
use Rattle.std.proofs.Common.{◌≡◌, ℕ, ◌<◌, Bool, true, false, List, [], ◌∷◌, length, drop, Some, None, sym, ap, ◌∙◌, subst, ⊎_elim, arith}
use mathlib.Core.Bool.{Bool-set}
use mathlib.Core.HLevel.{is_prop→PathP}
use Rattle.std.proofs.lemmas.Bool.{cases_eq, ltb-false, or_left, or_right}
use Rattle.std.proofs.lemmas.Bool.Decides.{nat_tests}
use Rattle.fixpoint.specs.declared.latest.LatestFirst.{LatestFirst}
use Rattle.fixpoint.specs.Numbers.{has, small, without}
use Rattle.fixpoint.specs.Table.{Pushed}
use Rattle.fixpoint.specs.Latest.{newest_outside, union}
use Rattle.fixpoint.specs.Worklist.{Put, Taken, with_number, without_number}
use Rattle.fixpoint.proofs.Waiting.{put_small}
use Rattle.fixpoint.specs.Held.{Newest, newest_is, has_append, has_oldest, has_without, pushed_none, pushed_some, small_getD}

-- two such worklists with the same eight over the same worklist are the same
pub latest_same : {W : Type 0} {a b : LatestFirst W} → a.below ≡ b.below → a.eight ≡ b.eight → a ≡ b
latest_same {a = a} {b = b} e f = λ k. record { below = e k; eight = f k; fits = is_prop→PathP (λ j. small (f j).items ≡ true) (λ j. Bool-set _ _) a.fits b.fits k }

module _ {W : Type 0} (waiting : W → ℕ → Bool) (xs ys : List ℕ) (i : ℕ) (w : W) where
  -- i comes in where there is room
  pub put_room : Pushed xs i None ys → (j : ℕ) → union ys (waiting w) j ≡ with_number i (union xs (waiting w)) j
  put_room h j = let e = ap (has j) (pushed_none xs ys i h).1 ∙ has_append j xs (i ∷ []) in grind (arith, nat_tests)

  -- i comes in, and the oldest goes below
  pub put_full : (o b : ℕ) (w' : W) (r : Bool) → Pushed xs i (Some o) ys → b ≡ o → small xs ≡ true → Put waiting w b r w' → (j : ℕ) → union ys (waiting w') j ≡ with_number i (union xs (waiting w)) j
  put_full o b w' r h same s put j =
      let pushed = pushed_some xs ys i o h in
      let some : 0 < length xs = omega (arith, ltb-false (length xs) 8 pushed.0) in
      let oldest = same ∙ pushed.1 in
      let low : b < 128 = omega (arith, small_getD xs 0 some s) in
      let v = put_small put low j ∙ ap (λ k. with_number k (waiting w) j) oldest in
      let e = ap (has j) pushed.2 ∙ has_append j (drop 1 xs) (i ∷ []) in
      let k = has_oldest j xs some in
      grind (arith, nat_tests)

  -- i is the newest of the eight that does not wait below
  pub take_newest : Some i ≡ newest_outside (waiting w) xs → ys ≡ without i xs → (union xs (waiting w) i ≡ true) × ((j : ℕ) → union ys (waiting w) j ≡ without_number i (union xs (waiting w)) j)
  take_newest e left =
      let found = subst (Newest (waiting w) xs) (sym e) (newest_is (waiting w) xs) in (
        or_left (has i xs) (waiting w i) found.0,
        λ j.
            let h = ap (has j) left ∙ has_without i j xs in
            ⊎_elim (λ (d : j ≡ i). let out = ap (waiting w) d ∙ found.1 in grind (arith, nat_tests)) (λ (d : j ≡ i → ⊥). grind (arith, nat_tests)) (cases_eq j i),
      )

  -- i comes from below
  pub take_below : (w' : W) → Taken waiting w (Some i) w' → ys ≡ without i xs → (union xs (waiting w) i ≡ true) × ((j : ℕ) → union ys (waiting w') j ≡ without_number i (union xs (waiting w)) j)
  take_below w' taken left = (
    or_right (has i xs) (waiting w i) taken.0,
    λ j.
        let h = ap (has j) left ∙ has_without i j xs in
        let v = taken.1 j in
        grind (arith, nat_tests),
  )

-- nothing waits
pub take_none : {W : Type 0} (waiting : W → ℕ → Bool) (xs : List ℕ) (w w' : W) → None ≡ newest_outside (waiting w) xs → Taken waiting w None w' → (j : ℕ) → union xs (waiting w) j ≡ false
take_none waiting xs w w' e taken j =
    let all = subst (Newest (waiting w) xs) (sym e) (newest_is (waiting w) xs) j in
    let b = taken.0 j in
    grind (arith, nat_tests)
