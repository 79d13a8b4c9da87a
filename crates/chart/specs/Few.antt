-- How many records a chart has. Assumes nothing.
use Rattle.std.specs.Prelude.{◌≡◌, ℕ, ◌≤◌, List, length}
use Rattle.std.proofs.Common.{arith}
use mathlib.Core.Logic.{∥∥₁_elim}
use native.Mathlib.Bridge.{le_prop}
use Rattle.std.proofs.lemmas.List.FromFn.{length-map-range_with_len}
use Rattle.chart.specs.Decoded.{decode, signal_at, name_at, automaton_at, transition_at}
use Rattle.chart.specs.Layout.{Layout}
use Rattle.chart.specs.Places.{signal_count, automaton_count, transition_count}

-- the lists are as long as their counts say
pub signals_long : (bs : List ℕ) → length (decode bs).signals ≡ signal_count bs
unfolding decode
signals_long bs = length-map-range_with_len (signal_at bs) 0 (signal_count bs)

pub names_long : (bs : List ℕ) → length (decode bs).names ≡ signal_count bs
unfolding decode
names_long bs = length-map-range_with_len (name_at bs) 0 (signal_count bs)

pub automata_long : (bs : List ℕ) → length (decode bs).automata ≡ automaton_count bs
unfolding decode
automata_long bs = length-map-range_with_len (automaton_at bs) 0 (automaton_count bs)

pub transitions_long : (bs : List ℕ) → length (decode bs).transitions ≡ transition_count bs
unfolding decode
transitions_long bs = length-map-range_with_len (transition_at bs) 0 (transition_count bs)

-- a chart has at most 64 signals
pub few_signals : (bs : List ℕ) → ∥ Layout bs ∥₁ → length (decode bs).signals ≤ 64
few_signals bs t = ∥∥₁_elim t le_prop (λ h. let few = h.few_signals in omega (arith, signals_long bs))

-- a chart has at most 32 automata
pub few_automata : (bs : List ℕ) → ∥ Layout bs ∥₁ → length (decode bs).automata ≤ 32
few_automata bs t = ∥∥₁_elim t le_prop (λ h. let few = h.few_automata in omega (arith, automata_long bs))

-- a chart has at most 128 transitions
pub few_transitions : (bs : List ℕ) → ∥ Layout bs ∥₁ → length (decode bs).transitions ≤ 128
few_transitions bs t = ∥∥₁_elim t le_prop (λ h. let few = h.few_transitions in omega (arith, transitions_long bs))

-- and so no more than 128 records of any kind
pub signals_128 : (bs : List ℕ) → ∥ Layout bs ∥₁ → length (decode bs).signals ≤ 128
signals_128 bs t = omega (arith, few_signals bs t)

pub automata_128 : (bs : List ℕ) → ∥ Layout bs ∥₁ → length (decode bs).automata ≤ 128
automata_128 bs t = omega (arith, few_automata bs t)
