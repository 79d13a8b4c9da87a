-- The equations of an instant keep the laws of a system. Assumes nothing.
use Rattle.std.specs.Prelude.{◌≡◌, ℕ, ◌<◌, ◌≤◌, Bool, true, false, cond, not, ◌&&◌, ◌||◌, List, [], ◌∷◌, ◌++◌, map, length, Option, ◌≢◌, nat_lt, slice_index_or}
use Rattle.std.proofs.Math.Path.{refl}
use Rattle.std.proofs.Common.{ap, arith, lit<, lit≤}
use Rattle.std.proofs.Math.Bool.{or_assoc, or_comm, or_self}
use Rattle.std.specs.List.{AllZip, AllByRecursion}
use Rattle.std.proofs.ByRecursion.{All-weaker}
use Rattle.std.proofs.lemmas.Bool.{true≢false, and_left, and_right, and_from, or_left, or_right, lt-ltb, le-ltb}
use Rattle.bits.specs.Bits.{bit}
use Rattle.bits.specs.Members.{members, some}
use Rattle.bits.proofs.Members.{members_set}
use Rattle.fixpoint.specs.System.{Laws}
use Rattle.fixpoint.proofs.Evaluating.{given_beyond, given_related, given_short, taken_related}
use Rattle.fixpoint.proofs.Lattice.{joins_below}
use Rattle.chart.specs.Decoded.{Decoded, decode, input}
use Rattle.chart.specs.Layout.{Layout}
use Rattle.chart.proofs.Decoding
use Rattle.chart.specs.declared.transition.Transition.{Transition}
use Rattle.status.specs.Equations.{guard, rivals, firing, emits, firings, status_of, assigned, mentions, bears, hears, status_equations}
use Rattle.status.specs.Status.{status, unknown, shown, opposite, united, marks, all, any, both}
use Rattle.status.specs.declared.status.Status.{Status}

-- a chart has at most 64 signals
pub few_signals : (bs : List ℕ) → ∥ Layout bs ∥₁ → length (decode bs).signals ≤ 64
few_signals bs t = Decoding.few_signals bs t

-- a relation that holds of the constants, and that Not and And keep
pub record Kept (R : Status → Status → Type 0) : Type 0 where
  pub blank : R unknown unknown
  pub shows : (b : Bool) → R (shown b) (shown b)
  pub nots : (a b : Status) → R a b → R (opposite a) (opposite b)
  pub ands : (a b c d : Status) → R a b → R c d → R (both a c) (both b d)

module _ (R : Status → Status → Type 0) (kept : Kept R) where
  -- related parts have a related And
  all_related : (xs ys : List Status) → AllZip R xs ys → R (all xs) (all ys)
  all_related [] [] h = kept.shows true
  all_related [] (y ∷ ys) h = absurd h
  all_related (x ∷ xs) [] h = absurd h
  all_related (x ∷ xs) (y ∷ ys) h = kept.ands x y (all xs) (all ys) h.0 (all_related xs ys h.1)

  -- the parts' Nots are related too
  each_opposite : (xs ys : List Status) → AllZip R xs ys → AllZip R (map opposite xs) (map opposite ys)
  each_opposite [] [] h = tt
  each_opposite [] (y ∷ ys) h = absurd h
  each_opposite (x ∷ xs) [] h = absurd h
  each_opposite (x ∷ xs) (y ∷ ys) h = (kept.nots x y h.0, each_opposite xs ys h.1)

  -- related parts have a related Or
  any_related : (xs ys : List Status) → AllZip R xs ys → R (any xs) (any ys)
  any_related xs ys h = kept.nots (all (map opposite xs)) (all (map opposite ys)) (all_related (map opposite xs) (map opposite ys) (each_opposite xs ys h))

  -- functions that are related at each element give related lists, also one after another
  each_map : {A : Type 0} (f g : A → Status) (xs : List A) → AllByRecursion (λ x. R (f x) (g x)) xs → AllZip R (map f xs) (map g xs)
  each_map f g [] h = tt
  each_map f g (x ∷ xs) h = (h.0, each_map f g xs h.1)

  each_maps : (f g p q : ℕ → Status) (xs ys : List ℕ) → AllByRecursion (λ x. R (f x) (g x)) xs → AllByRecursion (λ y. R (p y) (q y)) ys
      → AllZip R (map f xs ++ map p ys) (map g xs ++ map q ys)
  each_maps f g p q [] ys h k = each_map p q ys k
  each_maps f g p q (x ∷ xs) ys h k = (h.0, each_maps f g p q xs ys h.1 k)

  module _ (u v : ℕ → Status) where
    -- valuations that are related at each signal that a guard mentions give it related statuses
    pub guard_related : (t : Transition) → ((j : ℕ) → mentions j t ≡ true → R (u j) (v j)) → R (guard u t) (guard v t)
    guard_related t h =
        let wanted = members t.needed in
        let barred = members t.forbidden in
        let nots : (ℕ → Status) → ℕ → Status = λ w s. opposite (w s) in
        all_related (map u wanted ++ map (nots u) barred) (map v wanted ++ map (nots v) barred) (each_maps u v (nots u) (nots v) wanted barred
        (All-weaker (λ s. bit t.needed s ≡ true) (λ s. R (u s) (v s)) (λ s e. h s (or_left (bit t.needed s) (bit t.forbidden s) e)) wanted (members_set t.needed))
        (All-weaker (λ s. bit t.forbidden s ≡ true) (λ s. R (opposite (u s)) (opposite (v s)))
        (λ s e. kept.nots (u s) (v s) (h s (or_right (bit t.needed s) (bit t.forbidden s) e))) barred (members_set t.forbidden)))

    -- so for the Nots of the guards of several transitions
    guards_related : (es : List Transition) → ((j : ℕ) → some (mentions j) es ≡ true → R (u j) (v j))
        → AllByRecursion (λ e. R (opposite (guard u e)) (opposite (guard v e))) es
    guards_related [] h = tt
    guards_related (e ∷ es) h = (
      kept.nots (guard u e) (guard v e) (guard_related e (λ j m. h j (or_left (mentions j e) (some (mentions j) es) m))),
      guards_related es (λ j m. h j (or_right (mentions j e) (some (mentions j) es) m)),
    )

    -- so for a firing, at each signal that it depends on
    pub firing_related : (states : List (Option ℕ)) (earlier : List Transition) (t : Transition)
        → ((j : ℕ) → bears states j earlier t ≡ true → R (u j) (v j)) → R (firing states u earlier t) (firing states v earlier t)
    firing_related states earlier t h =
        let es = rivals states t.automaton earlier in
        all_related (guard u t ∷ map (λ e. opposite (guard u e)) es) (guard v t ∷ map (λ e. opposite (guard v e)) es) (
          guard_related t (λ j m. h j (or_left (mentions j t) (some (mentions j) es) m)),
          each_map (λ e. opposite (guard u e)) (λ e. opposite (guard v e)) es (guards_related es (λ j m. h j (or_right (mentions j t) (some (mentions j) es) m))),
        )

    -- so for all firings that make up a signal
    firings_related : (states : List (Option ℕ)) (s : ℕ) (earlier later : List Transition)
        → ((j : ℕ) → hears states s j earlier later ≡ true → R (u j) (v j)) → AllZip R (firings states u s earlier later) (firings states v s earlier later)
    unfolding firings hears
    firings_related states s earlier [] h = tt
    firings_related states s earlier (t ∷ later) h = go (emits states s t) refl
        (firings_related states s (earlier ++ (t ∷ [])) later (λ j m. h j (or_right (emits states s t && bears states j earlier t) (hears states s j (earlier ++ (t ∷ [])) later) m)))
      where
        go : (b : Bool) → emits states s t ≡ b → AllZip R (firings states u s (earlier ++ (t ∷ [])) later) (firings states v s (earlier ++ (t ∷ [])) later)
            → AllZip R (cond b (firing states u earlier t ∷ firings states u s (earlier ++ (t ∷ [])) later) (firings states u s (earlier ++ (t ∷ [])) later))
            (cond b (firing states v earlier t ∷ firings states v s (earlier ++ (t ∷ [])) later) (firings states v s (earlier ++ (t ∷ [])) later))
        go true e r = (firing_related states earlier t (λ j m. h j (or_left (emits states s t && bears states j earlier t) (hears states s j (earlier ++ (t ∷ [])) later) (and_from (emits states s t) (bears states j earlier t) e m))), r)
        go false e r = r

    -- so for the equation of a signal, at each signal that it hears
    pub status_related : (c : Decoded) (states : List (Option ℕ)) (mask i : ℕ)
        → (input c i ≡ false → (j : ℕ) → hears states i j [] c.transitions ≡ true → R (u j) (v j)) → R (status_of c states mask u i) (status_of c states mask v i)
    status_related c states mask i h = go (input c i) refl
      where
        go : (b : Bool) → input c i ≡ b
            → R (cond b (shown (bit mask i)) (any (firings states u i [] c.transitions))) (cond b (shown (bit mask i)) (any (firings states v i [] c.transitions)))
        go true e = kept.shows (bit mask i)
        go false e = any_related (firings states u i [] c.transitions) (firings states v i [] c.transitions) (firings_related states i [] c.transitions (h e))

  -- beyond the last signal every assignment says unknown
  pub assigned_related : (n : ℕ) (xs ys : List Status) (j : ℕ) → (j < n → R (slice_index_or xs j unknown) (slice_index_or ys j unknown)) → R (assigned n xs j) (assigned n ys j)
  assigned_related = taken_related unknown R kept.blank

  -- assignments that are related at each signal that equation i reads give it related values
  pub evaluated_related : (c : Decoded) (states : List (Option ℕ)) (mask : ℕ) (xs ys : List Status)
      → length c.signals ≤ length xs → length c.signals ≤ length ys → (i : ℕ)
      → (i < length c.signals → input c i ≡ false → (j : ℕ) → j < length c.signals → hears states i j [] c.transitions ≡ true → R (slice_index_or xs j unknown) (slice_index_or ys j unknown))
      → R ((status_equations c states mask).evaluate i xs) ((status_equations c states mask).evaluate i ys)
  evaluated_related c states mask xs ys p q i h =
      let n = length c.signals in
      given_related unknown n i (λ zs. status_of c states mask (assigned n zs) i) R kept.blank xs ys p q
      (λ l. status_related (assigned n xs) (assigned n ys) c states mask i (λ e j m. assigned_related n xs ys j (λ k. h l e j k m)))

-- And keeps the order of marks
and_below : (a b c d : Bool) → (a || b) ≡ b → (c || d) ≡ d → ((a && c) || (b && d)) ≡ (b && d)
and_below false b c d p q = refl
and_below true true c d p q = q
and_below true false c d p q = absurd (true≢false p)

-- the order by marks, and equality
below_kept : Kept (λ a b. united a b ≡ b)
below_kept = record {
  blank = refl;
  shows = λ b k. status (or_self b k) (or_self (not b) k);
  nots = λ a b p. ap opposite p;
  ands = λ a b c d p q k. status
      (and_below a.present b.present c.present d.present (ap (λ (x : Status). x.present) p) (ap (λ (x : Status). x.present) q) k)
      (joins_below ◌||◌ or_assoc or_comm a.absent b.absent c.absent d.absent (ap (λ (x : Status). x.absent) p) (ap (λ (x : Status). x.absent) q) k);
}

equality_kept : Kept (λ a b. a ≡ b)
equality_kept = record {
  blank = refl;
  shows = λ b. refl;
  nots = λ a b p. ap opposite p;
  ands = λ a b c d p q k. both (p k) (q k);
}

-- a union that differs has more marks
marks_rise : (p q x y : Bool) → (united (status p q) (status x y) ≢ status p q) → marks (status p q) < marks (united (status p q) (status x y))
marks_rise true true x y d = absurd (d refl)
marks_rise true false x true d = lit< tt
marks_rise true false x false d = absurd (d refl)
marks_rise false true true y d = lit< tt
marks_rise false true false y d = absurd (d refl)
marks_rise false false true true d = lit< tt
marks_rise false false true false d = lit< tt
marks_rise false false false true d = lit< tt
marks_rise false false false false d = absurd (d refl)

-- there are at most two marks
marks_bounded : (p q : Bool) → marks (status p q) ≤ 2
marks_bounded true true = lit≤ tt
marks_bounded true false = lit≤ tt
marks_bounded false true = lit≤ tt
marks_bounded false false = lit≤ tt

-- the equations of an instant, over a chart of at most 64 signals, keep the laws
pub status_laws : (c : Decoded) (states : List (Option ℕ)) (mask : ℕ) → length c.signals ≤ 64 → Laws (status_equations c states mask)
status_laws c states mask few =
    let n = length c.signals in
    record {
      associative = λ a b d k. status (or_assoc a.present b.present d.present k) (or_assoc a.absent b.absent d.absent k);
      commutative = λ a b k. status (or_comm a.present b.present k) (or_comm a.absent b.absent k);
      idempotent = λ a k. status (or_self a.present k) (or_self a.absent k);
      neutral = λ a. refl;
      rises = λ a b. marks_rise a.present a.absent b.present b.absent;
      bounded = λ a. marks_bounded a.present a.absent;
      few = omega arith;
      beyond = λ i xs. given_beyond unknown n i (λ zs. status_of c states mask (assigned n zs) i) xs;
      short = λ i xs. given_short unknown n i (λ zs. status_of c states mask (assigned n zs) i) xs;
      within = λ i j l. and_left (nat_lt i n && nat_lt j n) (not (input c i) && hears states i j [] c.transitions) (and_right (nat_lt i n) (nat_lt j n) (le-ltb j n l));
      monotone = λ xs ys p q h i. evaluated_related (λ a b. united a b ≡ b) below_kept c states mask xs ys p q i (λ l e j m r. h j m);
      local = λ xs ys p q i h. evaluated_related (λ a b. a ≡ b) equality_kept c states mask xs ys p q i
          (λ l e j m r. h j (and_from (nat_lt i n && nat_lt j n) (not (input c i) && hears states i j [] c.transitions)
          (and_from (nat_lt i n) (nat_lt j n) (lt-ltb i n l) (lt-ltb j n m)) (and_from (not (input c i)) (hears states i j [] c.transitions) (ap not e) r)));
    }
