-- The layout of a chart file, rule by rule, on the decoded fields. Assumes nothing.
use Rattle.std.specs.Prelude.{◌≡◌, ℕ, ◌+◌, ◌<◌, ◌≤◌, true, ◌⊎◌, List, map, length, Some, None, sum_by, ◌≢◌, slice_index}
use Rattle.std.specs.List.{range_with_len}
use Rattle.bits.specs.Bits.{bit}
use Rattle.chart.specs.Codes.{kind_byte, combining_byte}
use Rattle.chart.specs.Decoded.{signal_at, name_at, automaton_at, transition_at}
use Rattle.chart.specs.Places.{byte, signal_count, signal_place, automaton_count, automaton_place, transition_count, end_of}
use Rattle.chart.specs.declared.automaton.Owner.{Owner}
use Rattle.chart.specs.declared.signal.Kind.TheVariants.{Input}
use Rattle.chart.specs.declared.signal.Combining.TheVariants.{Plain}

-- a byte from a to z or from 0 to 9
abbrev pub Letter : ℕ → Type 0
Letter b = ((97 ≤ b) × (b ≤ 122)) ⊎ ((48 ≤ b) × (b ≤ 57))

-- signal i: the bytes of its kind and combining, no combining for an input, a name of letters and digits with zero bytes after it
pub record SignalRule (bs : List ℕ) (i : ℕ) : Type 0 where
  pub kind : byte bs (signal_place i) ≡ kind_byte (signal_at bs i).kind
  pub combining : byte bs (signal_place i + 1) ≡ combining_byte (signal_at bs i).combining
  pub input : (signal_at bs i).kind ≡ Input → (signal_at bs i).combining ≡ Plain
  pub named : 1 ≤ length (name_at bs i)
  pub letters : (k : ℕ) → k < length (name_at bs i) → Letter (slice_index (name_at bs i) k)
  pub zeros : (k : ℕ) → length (name_at bs i) ≤ k → k < 8 → byte bs (signal_place i + 2 + k) ≡ 0

-- automaton k: at the top the owner state is 0; any other owner is a smaller automaton, and the owner state one of its states;
-- 1 to 32 states, among them the first
pub record AutomatonRule (bs : List ℕ) (k : ℕ) : Type 0 where
  pub top : (automaton_at bs k).owner ≡ None → byte bs (automaton_place bs k + 1) ≡ 0
  pub smaller : (o : Owner) → (automaton_at bs k).owner ≡ Some o → o.automaton < k
  pub owned : (o : Owner) → (automaton_at bs k).owner ≡ Some o → o.state < (automaton_at bs o.automaton).states
  pub some : 1 ≤ (automaton_at bs k).states
  pub few : (automaton_at bs k).states ≤ 32
  pub first : (automaton_at bs k).first < (automaton_at bs k).states

-- a mask has only bits of signals
abbrev pub Mask : List ℕ → ℕ → Type 0
Mask bs m = (s : ℕ) → bit m s ≡ true → s < signal_count bs

-- transition i: its automaton exists and has its source and target; its masks have only bits of signals; no signal is both needed and
-- forbidden; no input is emitted
pub record TransitionRule (bs : List ℕ) (i : ℕ) : Type 0 where
  pub automaton : (transition_at bs i).automaton < automaton_count bs
  pub source : (transition_at bs i).source < (automaton_at bs (transition_at bs i).automaton).states
  pub target : (transition_at bs i).target < (automaton_at bs (transition_at bs i).automaton).states
  pub needed : Mask bs (transition_at bs i).needed
  pub forbidden : Mask bs (transition_at bs i).forbidden
  pub emitted : Mask bs (transition_at bs i).emitted
  pub apart : (s : ℕ) → bit (transition_at bs i).needed s ≡ true → bit (transition_at bs i).forbidden s ≢ true
  pub outgoing : (s : ℕ) → bit (transition_at bs i).emitted s ≡ true → (signal_at bs s).kind ≢ Input

-- the whole file
pub record Layout (bs : List ℕ) : Type 0 where
  pub some_signals : 1 ≤ signal_count bs
  pub few_signals : signal_count bs ≤ 64
  pub some_automata : 1 ≤ automaton_count bs
  pub few_automata : automaton_count bs ≤ 32
  pub few_transitions : transition_count bs ≤ 128
  -- nothing is cut off, and nothing follows
  pub ends : length bs ≡ end_of bs
  pub signals : (i : ℕ) → i < signal_count bs → SignalRule bs i
  -- no two names are equal
  pub names : (i j : ℕ) → i < j → j < signal_count bs → name_at bs i ≢ name_at bs j
  pub automata : (k : ℕ) → k < automaton_count bs → AutomatonRule bs k
  -- the automata have at most 64 states together
  pub together : sum_by (λ a. a.states) (map (automaton_at bs) (range_with_len 0 (automaton_count bs))) ≤ 64
  pub transitions : (i : ℕ) → i < transition_count bs → TransitionRule bs i
