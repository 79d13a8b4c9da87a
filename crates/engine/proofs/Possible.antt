-- A signal that is present is possible, where the states that are held are reached. Assumes nothing.
use Rattle.std.proofs.Common.{◌≡◌, ℕ, zero, suc, ◌*◌, ◌<◌, ◌≤◌, true, ◌&&◌, ◌||◌, ltb, leb, List, [], ◌∷◌, ◌++◌, map, length, take, Option, sym, ap, ◌∙◌, ⊎_elim, arith}
use Rattle.std.proofs.lemmas.List.FromFn.{get_or-map-range_with_len, length-map-range_with_len}
use Rattle.std.proofs.lemmas.List.{get_or_past, get_or-take, length-take}
use Rattle.std.proofs.lemmas.Bool.{and_from, and_parts, cases_lt, cond_both, false≢true, or_cases, or_left, or_right}
use Rattle.bits.specs.Bits.{bit}
use Rattle.bits.specs.Members.{every, members, some}
use Rattle.bits.proofs.Members.{every_append, every_map, every_weaker, some_map}
use Rattle.fixpoint.specs.System.{Assignment, Closed, least, rounds}
use Rattle.chart.specs.Decoded.{Decoded, input}
use Rattle.chart.specs.declared.transition.Transition.{Transition}
use Rattle.status.specs.Equations.{assigned, emits, firing, firings, guard, live, status_equations, status_of}
use Rattle.status.specs.Status.{any, opposite, shown, unknown}
use Rattle.status.specs.declared.status.Status.{Status}
use Rattle.reaction.proofs.Settling.{getD_defaults}
use Rattle.analysis.specs.Reach.{possible, possible_in, reach_equations, reached_in}
use Rattle.analysis.specs.Reach as Reach
use Rattle.bits.specs.declared.set.NumberSet.{NumberSet as StateSet}
use Rattle.analysis.proofs.Closure.{signal_possible}
use Rattle.engine.specs.Reached.{SignalsPossible, StatesReached}

-- where the present signals of an assignment are possible, so are those of its valuation
pub assigned_possible : (c : Decoded) (sets : List StateSet) (xs : List Status) → SignalsPossible c sets xs → (s : ℕ) → (assigned (length c.signals) xs s).present ≡ true → possible_in c sets s ≡ true
assigned_possible c sets xs there s =
    let n = length c.signals in
    ⊎_elim
    (λ (l : s < n) e. there s (sym (ap (λ a. a.present) (get_or-take n xs s unknown l)) ∙ e))
    (λ (l : n ≤ s) e. absurd (false≢true (sym (ap (λ a. a.present) (get_or_past (take n xs) s unknown (omega (arith, length-take n xs)))) ∙ e)))
    (cases_lt s n)

module _ (c : Decoded) (sets : List StateSet) (states : List (Option ℕ)) (held : StatesReached c sets states) where
  module _ (u : ℕ → Status) (there : (s : ℕ) → (u s).present ≡ true → possible_in c sets s ≡ true) where
    -- a live transition whose guard is present is possible
    pub guard_possible : (t : Transition) → live states t ≡ true → (guard u t).present ≡ true → possible (reached_in c sets) (possible_in c sets) t ≡ true
    guard_possible t alive shows =
        let wanted = members t.needed in
        let nots = map (λ s. opposite (u s)) (members t.forbidden) in
        let parts = and_parts (every (λ a. a.present) (map u wanted)) (every (λ a. a.present) nots) (sym (every_append (λ a. a.present) (map u wanted) nots) ∙ shows) in
        and_from (reached_in c sets t.automaton t.source) (every (possible_in c sets) wanted) (held t.automaton t.source alive)
        (every_weaker (λ s. (u s).present) (possible_in c sets) there wanted (sym (every_map (λ a. a.present) u wanted) ∙ parts.0))

    -- where a firing of a signal is present, a possible transition emits the signal
    firings_possible : (s : ℕ) (earlier later : List Transition) → some (λ a. a.present) (firings states u s earlier later) ≡ true
        → some (Reach.emits (reached_in c sets) (possible_in c sets) s) later ≡ true
    unfolding firings
    firings_possible s earlier [] = λ e. absurd (false≢true e)
    firings_possible s earlier (t ∷ later) =
        let out = Reach.emits (reached_in c sets) (possible_in c sets) s in
        let fires = firing states u earlier t in
        let rest = firings states u s (earlier ++ (t ∷ [])) later in
        let more : some (λ a. a.present) rest ≡ true → (out t || some out later) ≡ true = λ e. or_right (out t) (some out later) (firings_possible s (earlier ++ (t ∷ [])) later e) in
        cond_both (emits states s t) (fires ∷ rest) rest (λ fs. some (λ a. a.present) fs ≡ true → (out t || some out later) ≡ true)
        (λ is e. let alive = and_parts (live states t) (bit t.emitted s) is in
        ⊎_elim
        (λ (h : fires.present ≡ true). or_left (out t) (some out later)
        (and_from (bit t.emitted s) _ alive.1 (guard_possible t alive.0 (and_parts (guard u t).present _ h).0)))
        more
        (or_cases fires.present (some (λ a. a.present) rest) e))
        (λ is. more)

  module _ (long : Assignment (reach_equations c) sets) (closed : Closed (reach_equations c) sets) (mask : ℕ) where
    -- each equation over present signals that are possible is present only where its signal is possible
    evaluated_possible : (xs : List Status) → SignalsPossible c sets xs → (s : ℕ) → s < length c.signals → ((status_equations c states mask).evaluate s xs).present ≡ true → possible_in c sets s ≡ true
    evaluated_possible xs there s l =
        let n = length c.signals in
        let u = assigned n xs in
        let Fine : Status → Type 0 = λ a. a.present ≡ true → possible_in c sets s ≡ true in
        let fs = firings states u s [] c.transitions in
        let out = some (Reach.emits (reached_in c sets) (possible_in c sets) s) c.transitions in
        cond_both (ltb s n && leb n (length xs)) (status_of c states mask u s) unknown Fine
        (λ _. cond_both (input c s) (shown (bit mask s)) (any fs) Fine
        (λ is e. signal_possible c sets long closed s l (or_left (input c s) out is))
        (λ _ e. signal_possible c sets long closed s l
        (or_right (input c s) out (firings_possible u (assigned_possible c sets xs there) s [] c.transitions (sym (some_map (λ a. a.absent) opposite fs) ∙ e)))))
        (λ _ e. absurd (false≢true e))

    -- so for each round
    rounds_possible : (m : ℕ) → SignalsPossible c sets (rounds (status_equations c states mask) m)
    unfolding rounds
    rounds_possible zero s e = absurd (false≢true (sym (ap (λ a. a.present) (getD_defaults (length c.signals) s unknown)) ∙ e))
    rounds_possible (suc m) s e =
        let n = length c.signals in
        let before = rounds (status_equations c states mask) m in
        let f : ℕ → Status = λ i. (status_equations c states mask).evaluate i before in
        ⊎_elim
        (λ (l : s < n). evaluated_possible before (rounds_possible m) s l (sym (ap (λ a. a.present) (get_or-map-range_with_len f 0 n s s unknown l (omega arith))) ∙ e))
        (λ (l : n ≤ s). absurd (false≢true (sym (ap (λ a. a.present) (get_or_past _ s unknown (omega (arith, length-map-range_with_len f 0 n)))) ∙ e)))
        (cases_lt s n)

    -- so for the least solution
    pub signals_possible : SignalsPossible c sets (least (status_equations c states mask))
    signals_possible = rounds_possible (length c.signals * 2)
