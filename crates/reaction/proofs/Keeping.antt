-- What holds of each state that is held, from one configuration to the next. Assumes nothing.
use Rattle.std.proofs.Common.{◌≡◌, ℕ, ◌+◌, ◌<◌, Bool, true, eqb, List, [], ◌∷◌, ◌++◌, length, get_or, drop, Some, None, Option, sym, refl, ap, ◌∙◌, subst, ⊎_elim, arith}
use Rattle.std.specs.List.{range_with_len, AllByRecursion}
use Rattle.std.proofs.ByRecursion.{All-map, All-weaker, kept_by_passes}
use Rattle.std.proofs.lemmas.List.{drop-drop, get_or_append_left, get_or-drop, get_or_past, get_or_push, length-drop, length_push}
use Rattle.std.proofs.lemmas.Bool.{cases_order, cond_both, eqb-true, false≢true}
use Rattle.chart.specs.Decoded.{Decoded, transition}
use Rattle.chart.specs.declared.automaton.Automaton.{Automaton}
use Rattle.chart.specs.declared.automaton.Owner.{Owner}
use Rattle.chart.specs.declared.transition.Transition.{Transition}
use Rattle.status.specs.Configuration.{holds, is_state}
use Rattle.reaction.specs.Next.{automaton, fired_by, kept, moved, next, no_automaton, owned, padded, settled, started, starting, state_of, states_of, under}
use Rattle.reaction.specs.declared.next.Outcome.{Outcome}
use Rattle.reaction.specs.declared.next.Outcome.TheVariants.{Gone, Stays, Enters}
use Rattle.reaction.proofs.Moving.{moves_it}
use Rattle.reaction.proofs.Settling.{states_read}

-- a property holds of the owner state, if there is an owner
abbrev pub OfOwner : (ℕ → ℕ → Type 0) → Option Owner → Type 0
OfOwner P None = Unit {0}
OfOwner P (Some o) = P o.automaton o.state

-- a property of states, P k s of state s of automaton k, that the first state of each automaton has if the owner state has it
module _ (c : Decoded) (P : ℕ → ℕ → Type 0) (first : (k : ℕ) → k < length c.automata → OfOwner P (automaton c k).owner → P k (automaton c k).first) where
  -- it holds of the state that automaton k holds
  abbrev Of : ℕ → Option ℕ → Type 0
  Of k state = (s : ℕ) → is_state state s ≡ true → P k s

  -- of the state of each outcome
  abbrev OfAll : List Outcome → Type 0
  OfAll outs = (k : ℕ) → Of k (state_of (get_or outs k Gone))

  -- of one state
  of_some : (k s : ℕ) → P k s → Of k (Some s)
  of_some k s h r e = subst (P k) (eqb-true s r e) h

  -- of none
  of_none : (k : ℕ) → Of k None
  of_none k s e = absurd (false≢true e)

  -- an automaton does what it does where its owner holds the owner state, and otherwise holds none
  owned_kept : (k state : ℕ) (owner itself start : Outcome) → (is_state (state_of owner) state ≡ true → Of k (state_of itself)) → (is_state (state_of owner) state ≡ true → Of k (state_of start)) → Of k (state_of (owned state owner itself start))
  owned_kept k state Gone itself start h g = of_none k
  owned_kept k state (Stays held) itself start h g = cond_both (eqb held state) itself Gone (λ o. Of k (state_of o)) h (λ _. of_none k)
  owned_kept k state (Enters held) itself start h g = cond_both (eqb held state) start Gone (λ o. Of k (state_of o)) g (λ _. of_none k)

  under_kept : (k : ℕ) (o : Option Owner) (before : List Outcome) (itself start : Outcome) → OfAll before
      → (OfOwner P o → Of k (state_of itself)) → (OfOwner P o → Of k (state_of start)) → Of k (state_of (under o before itself start))
  under_kept k None before itself start all h g = h tt
  under_kept k (Some o) before itself start all h g =
      owned_kept k o.state (get_or before o.automaton Gone) itself start (λ e. h (all o.automaton o.state e)) (λ e. g (all o.automaton o.state e))

  -- one automaton more
  all_more : (before : List Outcome) (x : Outcome) → OfAll before → Of (length before) (state_of x) → OfAll (before ++ (x ∷ []))
  all_more before x all h k =
      let n = length before in
      ⊎_elim
      (λ (e : k ≡ n). subst (λ o. Of k (state_of o)) (sym (get_or_push before x Gone k (sym e))) (subst (λ j. Of j (state_of x)) (sym e) h))
      (⊎_elim
      (λ (l : k < n). subst (λ o. Of k (state_of o)) (sym (get_or_append_left before (x ∷ []) Gone k l)) (all k))
      (λ (l : n < k). subst (λ o. Of k (state_of o)) (sym (get_or_past (before ++ (x ∷ [])) k Gone (omega (arith, length_push before x)))) (of_none k)))
      (cases_order k n)

  -- what the automata do by themselves keeps the property
  module _ (itself : ℕ → Outcome) (keeps : (k : ℕ) → k < length c.automata → OfOwner P (automaton c k).owner → Of k (state_of (itself k))) where
    -- so do all automata, owners first
    settled_kept : (later : List Automaton) (before : List Outcome) → drop (length before) c.automata ≡ later → OfAll before → OfAll (settled itself later before)
    settled_kept [] before e all = all
    settled_kept (a ∷ later) before e all =
        let n = length before in
        let x = under a.owner before (itself n) (started a) in
        let inside : n < length c.automata = omega (arith, ap length e, length-drop n c.automata) in
        let start : n + 0 ≡ n = omega arith in
        let is : automaton c n ≡ a = sym (get_or-drop n c.automata 0 no_automaton ∙ ap (automaton c) start) ∙ ap (λ xs. get_or xs 0 no_automaton) e in
        let rest : drop (length (before ++ (x ∷ []))) c.automata ≡ later = ap (λ i. drop i c.automata) (length_push before x) ∙ sym (drop-drop 1 n c.automata) ∙ ap (drop 1) e in
        let own : OfOwner P a.owner → OfOwner P (automaton c n).owner = subst (λ b. OfOwner P b.owner) (sym is) in
        settled_kept later (before ++ (x ∷ [])) rest (all_more before x all (under_kept n a.owner before (itself n) (started a) all
        (λ on. keeps n inside (own on))
        (λ on. subst (λ b. Of n (Some b.first)) is (of_some n (automaton c n).first (first n inside (own on))))))

    -- so does the configuration
    states_kept : (k s : ℕ) → holds (padded (states_of c itself)) k s ≡ true → P k s
    states_kept k s e = settled_kept c.automata [] refl of_none k s (sym (ap (λ o. is_state o s) (states_read (settled itself c.automata []) k)) ∙ e)

  -- the property holds of each state that is held at the start
  pub starting_kept : (k s : ℕ) → holds (padded (starting c)) k s ≡ true → P k s
  starting_kept = states_kept (λ k. started (automaton c k)) (λ k l on. of_some k (automaton c k).first (first k l on))

  -- an automaton moves to a target, or stays
  kept_kept : (k : ℕ) (held : Option ℕ) → Of k held → Of k (state_of (kept held))
  kept_kept k None h = h
  kept_kept k (Some s) h = h

  moved_kept : (k : ℕ) (held : Option ℕ) → Of k held → (ts : List Transition) → AllByRecursion (λ t. P k t.target) ts → Of k (state_of (moved ts held))
  moved_kept k held h [] all = kept_kept k held h
  moved_kept k held h (t ∷ ts) all = of_some k t.target all.0

  -- it holds of each state that is held next, if it holds of the states before and of the targets of the fired transitions
  pub next_kept : (fired : ℕ → Bool) (states : List (Option ℕ)) → ((k s : ℕ) → holds states k s ≡ true → P k s)
      → ((k i : ℕ) → moves_it c fired k i ≡ true → P k (transition c i).target) → (k s : ℕ) → holds (padded (next c fired states)) k s ≡ true → P k s
  next_kept fired states held target = states_kept (λ k. moved (fired_by c fired k) (get_or states k None)) (λ k _ _. moved_kept k (get_or states k None) (held k) (fired_by c fired k)
      (All-map (λ t. P k t.target) (transition c) _
      (All-weaker (λ i. moves_it c fired k i ≡ true) (λ i. P k (transition c i).target) (target k) _ (kept_by_passes (moves_it c fired k) (range_with_len 0 (length c.transitions))))))
