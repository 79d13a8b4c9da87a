-- The lists of a decoded chart, element by element, and how long they can be. Assumes nothing.
use Rattle.std.proofs.Common.{◌≡◌, ℕ, zero, suc, ◌+◌, ◌-◌, ◌<◌, ◌≤◌, ltb, cond, not, eqb, List, [], ◌∷◌, map, length, get_or, take, drop, Some, None, Option, refl, sym, ap, ◌∙◌, arith, rules, ⊎_elim}
use mathlib.Core.Logic.{∥∥₁_elim}
use Rattle.std.specs.Prelude.{unwrap_or}
use native.Mathlib.Bridge.{le_prop}
use Rattle.std.specs.List.{range_with_len, slice_get}
use Rattle.std.specs.Option.{option_map}
use Rattle.std.proofs.lemmas.List.FromFn.{length-map-range_with_len, get_or-map-range_with_len}
use Rattle.std.proofs.lemmas.List.{get_or_past, length-drop, length-take-le, take-take}
use Rattle.std.proofs.lemmas.List.Sums.{prefix_len-le-length}
use Rattle.std.proofs.Math.ListN.{drop_of_length-le}
use Rattle.std.proofs.Math.Seq.{drop-cons}
use Rattle.std.proofs.lemmas.Option.{get_or_from_slice_get, slice_get-get_or, slice_get_cases, slice_get_past, slice_get_within}
use Rattle.std.proofs.lemmas.Bool.{cases_lt, cond-true, cond-false, le-ltb, lt-ltb}
use Rattle.chart.specs.Decoded.{decode, signal_at, signal_of, name_at, name_field, name_length, automaton_at, automaton_of, transition, transition_at, transition_of, no_transition}
pub use Rattle.chart.specs.Few.{automata_long, few_automata, few_signals, few_transitions, names_long, signals_long, transitions_long}
use Rattle.chart.specs.Layout.{Layout}
use Rattle.chart.specs.Places.{signal_count, signal_place, automata_at, automaton_count, automaton_place, transition_count, transition_place, transitions_at, record_of}
use Rattle.chart.specs.View.{NamedAt}
use Rattle.chart.proofs.RecordBytes.{automaton_is, signal_is, transition_from}
use Rattle.chart.specs.declared.automaton.Automaton.{Automaton}
use Rattle.chart.specs.declared.transition.Transition.{Transition}

-- a list made from a function of the index
nth_made : {X : Type 0} (f : ℕ → X) (n i : ℕ) → i < n → slice_get (map f (range_with_len 0 n)) i ≡ Some (f i)
nth_made f n i l =
    let long = length-map-range_with_len f 0 n in
    slice_get-get_or (map f (range_with_len 0 n)) i (f i) (omega arith) ∙ ap Some (get_or-map-range_with_len f 0 n i i (f i) l (omega arith))

nth_beyond : {X : Type 0} (f : ℕ → X) (n i : ℕ) → n ≤ i → slice_get (map f (range_with_len 0 n)) i ≡ None
nth_beyond f n i l = let long = length-map-range_with_len f 0 n in slice_get_past (map f (range_with_len 0 n)) i (omega arith)

-- the lists hold what the bytes say
pub name_is : (bs : List ℕ) (i : ℕ) → i < signal_count bs → get_or (decode bs).names i [] ≡ name_at bs i
unfolding decode
name_is bs i l = get_or-map-range_with_len (name_at bs) 0 (signal_count bs) i i [] l (omega arith)

pub name_none : (bs : List ℕ) (i : ℕ) → signal_count bs ≤ i → get_or (decode bs).names i [] ≡ []
name_none bs i l = let long = names_long bs in get_or_past (decode bs).names i [] (omega arith)

pub automaton_some : (bs : List ℕ) (k : ℕ) → k < automaton_count bs → slice_get (decode bs).automata k ≡ Some (automaton_at bs k)
unfolding decode
automaton_some bs k = nth_made (automaton_at bs) (automaton_count bs) k

-- element i of such a list, by the record that it is made of
made_of : {X : Type 0} (f : ℕ → X) (g : List ℕ → X) (n i : ℕ) (r : List ℕ) → g r ≡ f i → slice_get (map f (range_with_len 0 n)) i ≡ option_map g (cond (ltb i n) (Some r) None)
made_of f g n i r e = ⊎_elim
    (λ (l : i < n). nth_made f n i l ∙ ap Some (sym e) ∙ ap (option_map g) (sym (cond-true (ltb i n) (Some r) None (lt-ltb i n l))))
    (λ (l : n ≤ i). nth_beyond f n i l ∙ ap (option_map g) (sym (cond-false (ltb i n) (Some r) None (le-ltb i n l))))
    (cases_lt i n)

-- the signals, automata and transitions, each by its record
pub signal_listed : (bs : List ℕ) (i : ℕ) → slice_get (decode bs).signals i ≡ option_map signal_of (record_of bs 0 10 i)
unfolding decode
signal_listed bs i = made_of (signal_at bs) signal_of (signal_count bs) i (take 10 (drop (signal_place i) bs)) (signal_is bs i)

pub automaton_listed : (bs : List ℕ) (k : ℕ) → slice_get (decode bs).automata k ≡ option_map automaton_of (record_of bs (automata_at bs) 4 k)
unfolding decode
automaton_listed bs k = made_of (automaton_at bs) automaton_of (automaton_count bs) k (take 4 (drop (automaton_place bs k) bs)) (automaton_is bs k)

pub transition_listed : (bs : List ℕ) (i : ℕ) → slice_get (decode bs).transitions i ≡ option_map transition_of (record_of bs (transitions_at bs) 31 i)
unfolding decode
transition_listed bs i = made_of (transition_at bs) transition_of (transition_count bs) i (take 31 (drop (transition_place bs i) bs)) (transition_from bs (transition_place bs i))

-- the file's empty end
pub named_beyond : (bs : List ℕ) (i : ℕ) → signal_count bs ≤ i → NamedAt bs i (take (length bs - length bs) (drop (length bs) bs)) (length bs)
named_beyond bs i l =
    let long = names_long bs in
    let empty : take (length bs - length bs) (drop (length bs) bs) ≡ [] = let none : length bs - length bs ≡ 0 = omega arith in ap (λ n. take n (drop (length bs) bs)) none in
    record {
      is = empty ∙ sym (name_none bs i l);
      stands = sym (cond-false (ltb i (length (decode bs).names)) (signal_place i + 2) (length bs) (le-ltb i (length (decode bs).names) (omega arith)));
      part = empty ∙ sym (ap (λ name. take (length name) (drop (length bs) bs)) empty);
    }

-- the name of a signal, in the file
pub named_within : (bs : List ℕ) (i n : ℕ) → i < signal_count bs → signal_place i + 10 ≤ length bs
    → n ≡ name_length (name_field bs i) → NamedAt bs i (take n (drop (signal_place i + 2) bs)) (signal_place i + 2)
named_within bs i n l fits h =
    let long = names_long bs in
    let rest = drop (signal_place i + 2) bs in
    let room : 8 ≤ length rest = simp length-drop (omega arith) in
    let few : n ≤ 8 = omega (arith, prefix_len-le-length (λ b. not (eqb b 0)) (name_field bs i), length-take-le 8 rest room) in
    let whole : take n rest ≡ name_at bs i = sym (take-take n 8 rest few) ∙ ap (λ m. take m (take 8 rest)) h in
    record {
      is = whole ∙ sym (name_is bs i l);
      stands = sym (cond-true (ltb i (length (decode bs).names)) (signal_place i + 2) (length bs) (lt-ltb i (length (decode bs).names) (omega arith)));
      part = ap (λ m. take m rest) (sym (length-take-le n rest (omega arith)));
    }

-- the first state of each automaton is below 32
pub first_small : (bs : List ℕ) → ∥ Layout bs ∥₁ → (k : ℕ) (d : Automaton) → k < length (decode bs).automata → (get_or (decode bs).automata k d).first < 32
unfolding decode
first_small bs t k d l = ∥∥₁_elim t le_prop (λ h.
    let inside : k < automaton_count bs = omega (arith, automata_long bs) in
    let rule = h.automata k inside in
    let is = get_or-map-range_with_len (automaton_at bs) 0 (automaton_count bs) k k d inside (omega arith) in
    omega (arith, ap (λ a. a.first) is, rule.first, rule.few))

-- each transition is of one of the automata
pub automaton_there : (bs : List ℕ) → ∥ Layout bs ∥₁ → (i : ℕ) → i < length (decode bs).transitions → (transition (decode bs) i).automaton < length (decode bs).automata
unfolding decode
automaton_there bs t i l = ∥∥₁_elim t le_prop (λ h.
    let inside : i < transition_count bs = omega (arith, transitions_long bs) in
    let is = get_or-map-range_with_len (transition_at bs) 0 (transition_count bs) i i no_transition inside (omega arith) in
    omega (arith, ap (λ a. a.automaton) is, (h.transitions i inside).automaton, automata_long bs))

-- the target of each transition is below 32
pub target_small : (bs : List ℕ) → ∥ Layout bs ∥₁ → (i : ℕ) → i < length (decode bs).transitions → (transition (decode bs) i).target < 32
unfolding decode
target_small bs t i l = ∥∥₁_elim t le_prop (λ h.
    let inside : i < transition_count bs = omega (arith, transitions_long bs) in
    let rule = h.transitions i inside in
    let is = get_or-map-range_with_len (transition_at bs) 0 (transition_count bs) i i no_transition inside (omega arith) in
    omega (arith, ap (λ a. a.target) is, rule.target, (h.automata (transition_at bs i).automaton rule.automaton).few))

-- what is left of a list from i on: element i and the rest, or nothing
pub left_from : {X : Type 0} (xs : List X) (i : ℕ) (x : X) → slice_get xs i ≡ Some x → drop i xs ≡ x ∷ drop (i + 1) xs
left_from xs i x h =
    let next : suc i ≡ i + 1 = omega arith in
    drop-cons xs i x (slice_get_within xs i x h) ∙ ap (λ k. get_or xs i x ∷ drop k xs) next ∙ ap (λ y. y ∷ drop (i + 1) xs) (get_or_from_slice_get xs i x x h)

pub none_left : {X : Type 0} (xs : List X) (i : ℕ) → slice_get xs i ≡ None → drop i xs ≡ []
none_left xs i h = ⊎_elim (λ p. search (rules, p, h)) (λ p. drop_of_length-le xs {i = i} p.0) (slice_get_cases xs i).1

-- a field of transition k, 0 beyond the last (docs/PORT.md names both)
field_read : (f : Transition → ℕ) → f no_transition ≡ 0 → (ts : List Transition) (k : ℕ) → unwrap_or (option_map f (slice_get ts k)) 0 ≡ f (get_or ts k no_transition)
field_read f z [] k = sym z
field_read f z (t ∷ ts) zero = refl
field_read f z (t ∷ ts) (suc k) = field_read f z ts k

-- the same, of what an option and `unwrap_or` gave
pub read_field : (f : Transition → ℕ) → f no_transition ≡ 0 → (ts : List Transition) (k : ℕ) {o : Option ℕ} {r : ℕ} → o ≡ option_map f (slice_get ts k) → r ≡ unwrap_or o 0 → r ≡ f (get_or ts k no_transition)
read_field f z ts k h l = l ∙ ap (λ o. unwrap_or o 0) h ∙ field_read f z ts k
