-- What an assignment has that is closed under the reach equations. Assumes nothing.
use Rattle.std.proofs.Common.{◌≡◌, ℕ, zero, suc, ◌+◌, ◌-◌, ◌<◌, Bool, true, ◌||◌, eqb, ltb, List, [], ◌∷◌, length, get_or, drop, sym, refl, ap, ◌∙◌, arith}
use Rattle.std.specs.List.{slice_get}
use Rattle.std.proofs.lemmas.List.{get_or-drop, get_or-take}
use Rattle.std.proofs.lemmas.Option.{slice_get-get_or}
use Rattle.std.proofs.lemmas.Bool.{and_from, cond-false, cond-true, eq-eqb, le-ltb, lt-ltb}
use Rattle.bits.specs.Members.{some}
use Rattle.bits.proofs.Sets.{has_left, has_only_if, has_right}
use Rattle.fixpoint.specs.System.{Assignment, Closed}
use Rattle.fixpoint.proofs.Evaluating.{given_is}
use Rattle.chart.specs.Decoded.{Decoded, decode, input, no_transition, transition}
use Rattle.chart.specs.Layout.{Layout}
use Rattle.chart.specs.declared.automaton.Automaton.{Automaton}
use Rattle.chart.specs.declared.transition.Transition.{Transition}
use Rattle.chart.proofs.Decoding.{automaton_there, first_small, target_small}
use Rattle.analysis.specs.Reach.{emits, entered, moves, possible, possible_in, reach_equations, reach_of, reached_in, signal_of, started, states_of, targets, unknowns}
use Rattle.bits.specs.Set.{has, none, only_if}
use Rattle.bits.specs.declared.set.NumberSet.{NumberSet as StateSet}

-- the targets have that of each transition that passes
has_target : (p : Transition → Bool) (ts : List Transition) (i : ℕ) → i < length ts → p (get_or ts i no_transition) ≡ true → (get_or ts i no_transition).target < 32
    → has (targets p ts) (get_or ts i no_transition).target ≡ true
unfolding targets
has_target p [] i l e small = absurd (omega arith)
has_target p (t ∷ ts) zero l e small = has_left (only_if (p t) t.target) (targets p ts) t.target (has_only_if (p t) t.target small e)
has_target p (t ∷ ts) (suc i) l e small =
    has_right (only_if (p t) t.target) (targets p ts) (get_or ts i no_transition).target (has_target p ts i (omega arith) e small)

module _ (c : Decoded) (sets : List StateSet) (long : Assignment (reach_equations c) sets) (closed : Closed (reach_equations c) sets) where
  -- the place of an unknown has what its equation has
  place_has : (i s : ℕ) → i < unknowns c → has (reach_of c (reached_in c sets) (possible_in c sets) i) s ≡ true → has (get_or sets i none) s ≡ true
  place_has i s l e =
      let value : List StateSet → StateSet = λ xs. reach_of c (reached_in c xs) (possible_in c xs) i in
      let here = ap (λ a. has a s) (given_is none (unknowns c) i value sets l long) ∙ e in
      sym (ap (λ a. has a s) (closed i l)) ∙ has_left ((reach_equations c).evaluate i sets) (get_or sets i none) s here

  -- so for the states of an automaton
  state_has : (k s : ℕ) → k < length c.automata → has (states_of c (reached_in c sets) (possible_in c sets) k) s ≡ true → reached_in c sets k s ≡ true
  state_has k s l e =
      let m = length c.automata in
      ap (λ a. has a s) (get_or-take m sets k none l)
      ∙ place_has k s (omega arith) (ap (λ a. has a s) (cond-true (ltb k m) _ _ (lt-ltb k m l)) ∙ e)

  -- a signal is possible that is an input or that a possible transition emits
  pub signal_possible : (s : ℕ) → s < length c.signals → (input c s || some (emits (reached_in c sets) (possible_in c sets) s) c.transitions) ≡ true → possible_in c sets s ≡ true
  signal_possible s l e =
      let m = length c.automata in
      let back : m + s - m ≡ s = omega arith in
      let has-0 : ℕ → Bool = λ j. has (signal_of c (reached_in c sets) (possible_in c sets) j) 0 in
      ap (λ a. has a 0) (get_or-take (length c.signals) (drop m sets) s none l ∙ get_or-drop m sets s none)
      ∙ place_has (m + s) 0 (omega arith)
      (ap (λ a. has a 0) (cond-false (ltb (m + s) m) _ _ (le-ltb (m + s) m (omega arith))) ∙ ap has-0 back ∙ has_only_if _ 0 (omega arith) e)

module _ (bs : List ℕ) (layout : ∥ Layout bs ∥₁) (sets : List StateSet) (long : Assignment (reach_equations (decode bs)) sets) (closed : Closed (reach_equations (decode bs)) sets) where
  -- the first state of an automaton is reached if it is entered
  pub first_reached : (k : ℕ) (d : Automaton) → k < length (decode bs).automata → entered (reached_in (decode bs) sets) (get_or (decode bs).automata k d).owner ≡ true
      → reached_in (decode bs) sets k (get_or (decode bs).automata k d).first ≡ true
  first_reached k d l e =
      let c = decode bs in
      let a = get_or c.automata k d in
      let reached = reached_in c sets in
      let first : has (started reached (slice_get c.automata k)) a.first ≡ true =
      ap (λ o. has (started reached o) a.first) (slice_get-get_or c.automata k d l) ∙ has_only_if (entered reached a.owner) a.first (first_small bs layout k d l) e in
      state_has c sets long closed k a.first l (has_left (started reached (slice_get c.automata k)) (targets (moves reached (possible_in c sets) k) c.transitions) a.first first)

  -- the target of a possible transition is reached
  pub target_reached : (i : ℕ) → i < length (decode bs).transitions → possible (reached_in (decode bs) sets) (possible_in (decode bs) sets) (transition (decode bs) i) ≡ true
      → reached_in (decode bs) sets (transition (decode bs) i).automaton (transition (decode bs) i).target ≡ true
  target_reached i l e =
      let c = decode bs in
      let t = transition c i in
      let own = moves (reached_in c sets) (possible_in c sets) t.automaton in
      let passes : own t ≡ true = and_from (eqb t.automaton t.automaton) _ (eq-eqb t.automaton t.automaton refl) e in
      state_has c sets long closed t.automaton t.target (automaton_there bs layout i l)
      (has_right (started (reached_in c sets) (slice_get c.automata t.automaton)) (targets own c.transitions) t.target (has_target own c.transitions i l passes (target_small bs layout i l)))
