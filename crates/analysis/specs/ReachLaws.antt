-- The reach equations keep the laws of a system. Assumes nothing.
use Rattle.std.specs.Prelude.{◌≡◌, ℕ, ◌+◌, ◌-◌, ◌<◌, ◌≤◌, Bool, true, false, ◌&&◌, ◌||◌, List, [], ◌∷◌, length, take, drop, Some, None, Option, ◌==◌, nat_eq, nat_le, nat_lt, slice_index_or, refl}
use Rattle.std.proofs.Common.{sym, ap, ◌∙◌, ⊎_elim, arith}
use Rattle.std.specs.List.{AllByRecursion, slice_get}
use Rattle.std.proofs.ByRecursion.{All-weaker}
use Rattle.std.proofs.lemmas.List.{get_or-drop}
use Rattle.std.proofs.lemmas.Bool.{false≢true, and_from, and_left, and_parts, and_right, cases_lt, cond-false, cond-true, eq-eqb, le-leb, le-ltb, lt-ltb, or_cases, or_left, or_right}
use Rattle.bits.specs.Bits.{bit}
use Rattle.bits.specs.Members.{members, every, some}
use Rattle.bits.specs.Set.{none, only, only_if, union, has}
use Rattle.bits.specs.declared.set.NumberSet.{NumberSet as StateSet}
use Rattle.bits.proofs.Members.{members_set}
use Rattle.bits.proofs.Sets.{has_left, size_bounded, union_assoc, union_comm, union_none, union_rises, union_self}
use Rattle.fixpoint.specs.System.{Laws}
use Rattle.fixpoint.proofs.Evaluating.{given_beyond, given_related, given_short, taken_related}
use Rattle.fixpoint.proofs.Lattice.{joins_below}
use Rattle.chart.specs.Decoded.{Decoded, decode, input}
use Rattle.chart.specs.Layout.{Layout}
use Rattle.chart.specs.declared.automaton.Automaton.{Automaton}
use Rattle.chart.specs.declared.automaton.Owner.{Owner}
use Rattle.chart.specs.declared.transition.Transition.{Transition}
use Rattle.chart.proofs.Decoding.{few_automata, few_signals}
use Rattle.analysis.specs.Reach.{adds, bears, entered, hears, is_owner, owned_by, possible, possible_in, reach_equations, reach_of, reached_in, started, targets, unknowns}

-- a relation on tests and one on sets that And, Or, union and the two questions between tests and sets keep
pub record Kept (B : Bool → Bool → Type 0) (S : StateSet → StateSet → Type 0) : Type 0 where
  pub same : (b : Bool) → B b b
  pub ands : (a b c d : Bool) → B a b → B c d → B (a && c) (b && d)
  pub ors : (a b c d : Bool) → B a b → B c d → B (a || c) (b || d)
  pub blank : S none none
  pub only_ifs : (a b : Bool) (i : ℕ) → B a b → S (only_if a i) (only_if b i)
  pub unions : (a b c d : StateSet) → S a b → S c d → S (union a c) (union b d)
  pub holds : (a b : StateSet) (i : ℕ) → S a b → B (has a i) (has b i)

module _ (B : Bool → Bool → Type 0) (S : StateSet → StateSet → Type 0) (kept : Kept B S) where
  -- tests that are related at each element have related answers over a list
  every_related : (p q : ℕ → Bool) (xs : List ℕ) → AllByRecursion (λ x. B (p x) (q x)) xs → B (every p xs) (every q xs)
  every_related p q [] h = kept.same true
  every_related p q (x ∷ xs) h = kept.ands (p x) (q x) (every p xs) (every q xs) h.0 (every_related p q xs h.1)

  some_related : (p q : Transition → Bool) (ts : List Transition) → AllByRecursion (λ t. B (p t) (q t)) ts → B (some p ts) (some q ts)
  some_related p q [] h = kept.same false
  some_related p q (t ∷ ts) h = kept.ors (p t) (q t) (some p ts) (some q ts) h.0 (some_related p q ts h.1)

  targets_related : (p q : Transition → Bool) (ts : List Transition) → AllByRecursion (λ t. B (p t) (q t)) ts → S (targets p ts) (targets q ts)
  unfolding targets
  targets_related p q [] h = kept.blank
  targets_related p q (t ∷ ts) h =
      kept.unions (only_if (p t) t.target) (only_if (q t) t.target) (targets p ts) (targets q ts) (kept.only_ifs (p t) (q t) t.target h.0) (targets_related p q ts h.1)

  -- what comes after a test counts only where it holds
  after_test : (b x y : Bool) → (b ≡ true → B x y) → B (b && x) (b && y)
  after_test true x y h = h refl
  after_test false x y h = kept.same false

  module _ (c : Decoded) (xs ys : List StateSet) where
    -- two assignments are related at unknown j
    abbrev At : ℕ → Type 0
    At j = j < unknowns c → S (slice_index_or xs j none) (slice_index_or ys j none)

    reached_related : (k s : ℕ) → At k → B (reached_in c xs k s) (reached_in c ys k s)
    reached_related k s h =
        let m = length c.automata in
        kept.holds (slice_index_or (take m xs) k none) (slice_index_or (take m ys) k none) s (taken_related none S kept.blank m xs ys k (λ l. h (omega arith)))

    signal_related : (s : ℕ) → At (length c.automata + s) → B (possible_in c xs s) (possible_in c ys s)
    signal_related s h =
        let m = length c.automata in
        let n = length c.signals in
        kept.holds (slice_index_or (take n (drop m xs)) s none) (slice_index_or (take n (drop m ys)) s none) 0
        (taken_related none S kept.blank n (drop m xs) (drop m ys) s (λ l. rw (get_or-drop m xs s none, get_or-drop m ys s none) (h (omega arith))))

    -- so for whether a transition is possible, at each unknown that bears on it
    possible_related : (t : Transition) → ((j : ℕ) → bears c j t ≡ true → At j)
        → B (possible (reached_in c xs) (possible_in c xs) t) (possible (reached_in c ys) (possible_in c ys) t)
    possible_related t h =
        let m = length c.automata in
        let wanted = members t.needed in
        let own = reached_related t.automaton t.source (h t.automaton (or_left (t.automaton == t.automaton) _ (eq-eqb t.automaton t.automaton refl))) in
        let each : (s : ℕ) → bit t.needed s ≡ true → B (possible_in c xs s) (possible_in c ys s) =
        λ s e. signal_related s (h (m + s) (or_right (t.automaton == m + s) (nat_le m (m + s) && bit t.needed (m + s - m))
        (and_from (nat_le m (m + s)) (bit t.needed (m + s - m)) (le-leb m (m + s) (omega arith)) (ap (bit t.needed) (omega arith) ∙ e)))) in
        kept.ands (reached_in c xs t.automaton t.source) (reached_in c ys t.automaton t.source) (every (possible_in c xs) wanted) (every (possible_in c ys) wanted)
        own (every_related (possible_in c xs) (possible_in c ys) wanted (All-weaker (λ s. bit t.needed s ≡ true) (λ s. B (possible_in c xs s) (possible_in c ys s)) each wanted (members_set t.needed)))

    -- so for the possible ones among the transitions that pass a test
    tests_related : (f : Transition → Bool) (ts : List Transition) → ((j : ℕ) → some (λ t. f t && bears c j t) ts ≡ true → At j)
        → AllByRecursion (λ t. B (f t && possible (reached_in c xs) (possible_in c xs) t) (f t && possible (reached_in c ys) (possible_in c ys) t)) ts
    tests_related f [] h = tt
    tests_related f (t ∷ ts) h = (
      after_test (f t) _ _ (λ e. possible_related t (λ j m. h j (or_left (f t && bears c j t) (some (λ u. f u && bears c j u) ts) (and_from (f t) (bears c j t) e m)))),
      tests_related f ts (λ j m. h j (or_right (f t && bears c j t) (some (λ u. f u && bears c j u) ts) m)),
    )

    -- so for whether an automaton is entered, at its owner
    entered_related : (o : Option Owner) → ((j : ℕ) → is_owner j o ≡ true → At j) → B (entered (reached_in c xs) o) (entered (reached_in c ys) o)
    entered_related None h = kept.same true
    entered_related (Some o) h = reached_related o.automaton o.state (h o.automaton (eq-eqb o.automaton o.automaton refl))

    started_related : (a : Option Automaton) → ((j : ℕ) → owned_by j a ≡ true → At j) → S (started (reached_in c xs) a) (started (reached_in c ys) a)
    started_related None h = kept.blank
    started_related (Some a) h = kept.only_ifs (entered (reached_in c xs) a.owner) (entered (reached_in c ys) a.owner) a.first (entered_related a.owner h)

    -- so for the equation of unknown i, at each unknown that it hears
    pub reach_related : (i : ℕ) → ((j : ℕ) → hears c i j ≡ true → At j)
        → S (reach_of c (reached_in c xs) (possible_in c xs) i) (reach_of c (reached_in c ys) (possible_in c ys) i)
    reach_related i h =
        let m = length c.automata in
        let ts = c.transitions in
        let px = possible (reached_in c xs) (possible_in c xs) in
        let py = possible (reached_in c ys) (possible_in c ys) in
        -- what bears on the transitions that add to unknown i, where that is a plainer test
        let among : (f : Transition → Bool) → ((t : Transition) → adds c i t ≡ f t) → (j : ℕ) → some (λ t. f t && bears c j t) ts ≡ true → At j =
        λ f is j r. h j (or_right (owned_by j (slice_get c.automata i)) (some (λ t. adds c i t && bears c j t) ts) ((λ k. some (λ t. is t k && bears c j t) ts) ∙ r)) in
        ⊎_elim
        (λ (l : i < m).
        let here = lt-ltb i m l in
        let own : Transition → Bool = λ t. nat_eq t.automaton i in
        let rest = targets_related (λ t. own t && px t) (λ t. own t && py t) ts (tests_related own ts (among own (λ t. cond-true (nat_lt i m) (own t) (bit t.emitted (i - m)) here))) in
        let first = started_related (slice_get c.automata i) (λ j r. h j (or_left (owned_by j (slice_get c.automata i)) _ r)) in
        rw here (kept.unions _ _ _ _ first rest))
        (λ (l : m ≤ i).
        let here = le-ltb i m l in
        let out : Transition → Bool = λ t. bit t.emitted (i - m) in
        let rest = some_related (λ t. out t && px t) (λ t. out t && py t) ts (tests_related out ts (among out (λ t. cond-false (nat_lt i m) (t.automaton == i) (out t) here))) in
        rw here (kept.only_ifs _ _ 0 (kept.ors (input c (i - m)) (input c (i - m)) _ _ (kept.same (input c (i - m))) rest)))
        (cases_lt i m)

    -- assignments that are related at each unknown that equation i hears give it related values
    pub evaluated_related : unknowns c ≤ length xs → unknowns c ≤ length ys → (i : ℕ)
        → (i < unknowns c → (j : ℕ) → j < unknowns c → hears c i j ≡ true → S (slice_index_or xs j none) (slice_index_or ys j none))
        → S ((reach_equations c).evaluate i xs) ((reach_equations c).evaluate i ys)
    evaluated_related p q i h =
        given_related none (unknowns c) i (λ zs. reach_of c (reached_in c zs) (possible_in c zs) i) S kept.blank xs ys p q (λ l. reach_related i (λ j e r. h l j r e))

-- a test that holds more often gives the larger set
only_below : (a b : Bool) (i : ℕ) → (a ≡ true → b ≡ true) → union (only_if a i) (only_if b i) ≡ only_if b i
only_below false b i p = union_none (only_if b i)
only_below true true i p = union_self (only i)
only_below true false i p = absurd (false≢true (p refl))

-- the order by inclusion, and equality
inclusion_kept : Kept (λ a b. a ≡ true → b ≡ true) (λ a b. union a b ≡ b)
inclusion_kept = record {
  same = λ b e. e;
  ands = λ a b c d p q e. let h = and_parts a c e in and_from b d (p h.0) (q h.1);
  ors = λ a b c d p q e. ⊎_elim (λ (l : a ≡ true). or_left b d (p l)) (λ (r : c ≡ true). or_right b d (q r)) (or_cases a c e);
  blank = union_none none;
  only_ifs = only_below;
  unions = joins_below union union_assoc union_comm;
  holds = λ a b i p e. ap (λ x. has x i) (sym p) ∙ has_left a b i e;
}

equality_kept : Kept (λ a b. a ≡ b) (λ a b. a ≡ b)
equality_kept = record {
  same = λ b. refl;
  ands = λ a b c d p q k. p k && q k;
  ors = λ a b c d p q k. p k || q k;
  blank = refl;
  only_ifs = λ a b i p. ap (λ t. only_if t i) p;
  unions = λ a b c d p q k. union (p k) (q k);
  holds = λ a b i p. ap (λ x. has x i) p;
}

-- the reach equations of a chart of at most 32 automata and 64 signals keep the laws
pub reach_laws : (c : Decoded) → length c.automata ≤ 32 → length c.signals ≤ 64 → Laws (reach_equations c)
reach_laws c few-a few-s =
    let n = unknowns c in
    let value : ℕ → List StateSet → StateSet = λ i zs. reach_of c (reached_in c zs) (possible_in c zs) i in
    record {
      associative = union_assoc;
      commutative = union_comm;
      idempotent = union_self;
      neutral = union_none;
      rises = union_rises;
      bounded = size_bounded;
      few = omega arith;
      beyond = λ i xs. given_beyond none n i (value i) xs;
      short = λ i xs. given_short none n i (value i) xs;
      within = λ i j l. and_left (nat_lt i n && nat_lt j n) (hears c i j) (and_right (nat_lt i n) (nat_lt j n) (le-ltb j n l));
      monotone = λ xs ys p q h i. evaluated_related (λ a b. a ≡ true → b ≡ true) (λ a b. union a b ≡ b) inclusion_kept c xs ys p q i (λ l j m r. h j m);
      local = λ xs ys p q i h. evaluated_related (λ a b. a ≡ b) (λ a b. a ≡ b) equality_kept c xs ys p q i
          (λ l j m r. h j (and_from (nat_lt i n && nat_lt j n) (hears c i j) (and_from (nat_lt i n) (nat_lt j n) (lt-ltb i n l) (lt-ltb j n m)) r));
    }

-- so do those of a chart in a file that keeps the layout
pub chart_laws : (bs : List ℕ) → ∥ Layout bs ∥₁ → Laws (reach_equations (decode bs))
chart_laws bs h = reach_laws (decode bs) (few_automata bs h) (few_signals bs h)
