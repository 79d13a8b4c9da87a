-- How long a line can be. Assumes nothing.
use Rattle.std.proofs.Common.{◌≡◌, ℕ, zero, suc, ◌+◌, ◌*◌, ◌<◌, ◌≤◌, List, map, length, get_or, Some, None, decimal, sum_by, Option, sym, refl, ap, ◌∙◌, subst, ⊎_elim, add-one, arith}
use mathlib.Core.Logic.{∥∥₁_elim}
use native.Mathlib.Bridge.{le_prop}
use Rattle.std.specs.List.{range_with_len, flat_map}
use Rattle.std.proofs.lemmas.List.FromFn.{sum_by-map-range_with_len_more}
use Rattle.std.proofs.lemmas.Fmt.{length-decimal-le}
use Rattle.std.proofs.lemmas.List.{length-append}
use Rattle.std.proofs.lemmas.Bool.{cases_lt}
use Rattle.chart.specs.Decoded.{automaton_at, decode}
use Rattle.chart.specs.Layout.{Layout}
use Rattle.chart.specs.Places.{automaton_count}
use Rattle.chart.proofs.Decoding.{automata_long, automaton_some}
use Rattle.trace.specs.Line.{StatesWithin, space_held, state_text, states_text}
use Rattle.trace.proofs.Pieces.{joined_number}

-- a state below 10 has one digit, and one below 32 has two
digits_short : (s n : ℕ) → s < n → n ≤ 32 → 10 * length (decimal s) ≤ 9 + n
digits_short s n l few = ⊎_elim
    (λ (h : s < 10). let short = length-decimal-le 1 s (omega arith) (omega arith) (omega arith) in omega arith)
    (λ (h : 10 ≤ s). let short = length-decimal-le 2 s (omega arith) (omega arith) (omega arith) in omega arith)
    (cases_lt s 10)

held_short : (o : Option ℕ) (n : ℕ) → 1 ≤ n → n ≤ 32 → ((s : ℕ) → o ≡ Some s → s < n) → 10 * length (space_held o) ≤ 19 + n
held_short None n some few h = omega arith
held_short (Some s) n some few h = omega (arith, digits_short s n (h s refl) few)

module _ (bs : List ℕ) (h : Layout bs) (states : List (Option ℕ)) (held : StatesWithin (decode bs) states) where
  -- one automaton
  state_short : (n : ℕ) → n < automaton_count bs → 10 * length (state_text states n) ≤ 19 + (automaton_at bs n).states
  state_short n l =
      let rule = h.automata n l in
      held_short (get_or states n None) (automaton_at bs n).states rule.some rule.few (λ s e. held n (automaton_at bs n) s (automaton_some bs n l) e)

  -- the first automata
  states_long : (n : ℕ) → n ≤ automaton_count bs → 10 * length (flat_map (state_text states) (range_with_len 0 n)) ≤ 19 * n + sum_by (λ a. a.states) (map (automaton_at bs) (range_with_len 0 n))
  states_long zero l = omega arith
  states_long (suc n) l =
      let P : ℕ → Type 0 = λ m. 10 * length (flat_map (state_text states) (range_with_len 0 m)) ≤ 19 * m + sum_by (λ a. a.states) (map (automaton_at bs) (range_with_len 0 m)) in
      let before = states_long n (omega arith) in
      let here = state_short n (omega arith) in
      let text = sym (ap length (joined_number (state_text states) n)) ∙ length-append (flat_map (state_text states) (range_with_len 0 n)) (state_text states n) in
      let sum = sum_by-map-range_with_len_more (λ a. a.states) (automaton_at bs) 0 n n (omega arith) in
      subst P (add-one n) (omega (arith, text, sum))

-- the states of a chart are at most 67 bytes long
pub states_short : (bs : List ℕ) → ∥ Layout bs ∥₁ → (states : List (Option ℕ)) → StatesWithin (decode bs) states → length (states_text (decode bs) states) ≤ 67
states_short bs t states held = ∥∥₁_elim t le_prop (λ h.
    let few = h.few_automata in
    let together = h.together in
    let long = states_long bs h states held (automaton_count bs) (omega arith) in
    let same = ap (λ n. length (flat_map (state_text states) (range_with_len 0 n))) (automata_long bs) in
    omega (arith, same))

-- a count of seven digits and the states of a chart
pub counted_short : (bs : List ℕ) → ∥ Layout bs ∥₁ → (count : ℕ) (states : List (Option ℕ)) → count ≤ 1000000 → StatesWithin (decode bs) states
    → length (decimal count) + length (states_text (decode bs) states) ≤ 74
counted_short bs t count states few held =
    let digits = length-decimal-le 7 count (omega arith) (omega arith) (omega arith) in
    omega (arith, states_short bs t states held)
