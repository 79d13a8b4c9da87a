-- The reach equations of a decoded chart: which states and signals can occur at all. Assumes nothing.
use Rattle.std.specs.Prelude.{ℕ, ◌+◌, ◌-◌, Bool, true, false, cond, ◌&&◌, ◌||◌, List, [], ◌∷◌, length, take, drop, Some, None, Option, ◌==◌, nat_le, nat_lt, slice_index_or}
use Rattle.std.specs.List.{slice_get}
use Rattle.bits.specs.Bits.{bit}
use Rattle.bits.specs.Members.{members, every, some}
use Rattle.bits.specs.Set.{none, only_if, union, has, size}
use Rattle.bits.specs.declared.set.NumberSet.{NumberSet as StateSet}
use Rattle.fixpoint.specs.System.{Equations}
use Rattle.chart.specs.Decoded.{Decoded, input}
use Rattle.chart.specs.declared.automaton.Automaton.{Automaton}
use Rattle.chart.specs.declared.automaton.Owner.{Owner}
use Rattle.chart.specs.declared.transition.Transition.{Transition}

-- a transition is possible if its source is reached and all its needed signals are possible
abbrev pub possible : (ℕ → ℕ → Bool) → (ℕ → Bool) → Transition → Bool
possible reached signal t = reached t.automaton t.source && every signal (members t.needed)

-- a possible transition of automaton k
abbrev pub moves : (ℕ → ℕ → Bool) → (ℕ → Bool) → ℕ → Transition → Bool
moves reached signal k t = t.automaton == k && possible reached signal t

-- a possible transition that emits signal s
abbrev pub emits : (ℕ → ℕ → Bool) → (ℕ → Bool) → ℕ → Transition → Bool
emits reached signal s t = bit t.emitted s && possible reached signal t

-- an automaton is entered if it is at the top or its owner state is reached
abbrev pub entered : (ℕ → ℕ → Bool) → Option Owner → Bool
entered reached None = true
entered reached (Some o) = reached o.automaton o.state

-- the first state of an automaton, if it is entered
abbrev pub started : (ℕ → ℕ → Bool) → Option Automaton → StateSet
started reached None = none
started reached (Some a) = only_if (entered reached a.owner) a.first

-- the targets of the transitions that pass a test
unfoldable pub targets : (Transition → Bool) → List Transition → StateSet
targets p [] = none
targets p (t ∷ ts) = union (only_if (p t) t.target) (targets p ts)

-- the equation of automaton k: its first state, if it is entered, and the target of each possible transition of its own
abbrev pub states_of : Decoded → (ℕ → ℕ → Bool) → (ℕ → Bool) → ℕ → StateSet
states_of c reached signal k = union (started reached (slice_get c.automata k)) (targets (moves reached signal k) c.transitions)

-- the equation of signal s: 0 if it is an input or a possible transition emits it, and otherwise nothing
abbrev pub signal_of : Decoded → (ℕ → ℕ → Bool) → (ℕ → Bool) → ℕ → StateSet
signal_of c reached signal s = only_if (input c s || some (emits reached signal s) c.transitions) 0

-- the unknowns are the automata, then the signals
abbrev pub unknowns : Decoded → ℕ
unknowns c = length c.automata + length c.signals

-- the equation of unknown i
abbrev pub reach_of : Decoded → (ℕ → ℕ → Bool) → (ℕ → Bool) → ℕ → StateSet
reach_of c reached signal i = cond (nat_lt i (length c.automata)) (states_of c reached signal i) (signal_of c reached signal (i - length c.automata))

-- state s of automaton k is reached in an assignment if it is in the automaton's set
abbrev pub reached_in : Decoded → List StateSet → ℕ → ℕ → Bool
reached_in c xs k s = has (slice_index_or (take (length c.automata) xs) k none) s

-- signal s is possible in an assignment if 0 is in its set
abbrev pub possible_in : Decoded → List StateSet → ℕ → Bool
possible_in c xs s = has (slice_index_or (take (length c.signals) (drop (length c.automata) xs)) s none) 0

-- whether a transition adds to unknown i: it is of that automaton, or emits that signal
abbrev pub adds : Decoded → ℕ → Transition → Bool
adds c i t = cond (nat_lt i (length c.automata)) (t.automaton == i) (bit t.emitted (i - length c.automata))

-- whether unknown j bears on a transition: its automaton, or a signal that it needs
abbrev pub bears : Decoded → ℕ → Transition → Bool
bears c j t = t.automaton == j || (nat_le (length c.automata) j && bit t.needed (j - length c.automata))

-- whether automaton j is the owner
abbrev pub is_owner : ℕ → Option Owner → Bool
is_owner j None = false
is_owner j (Some o) = o.automaton == j

abbrev pub owned_by : ℕ → Option Automaton → Bool
owned_by j None = false
owned_by j (Some a) = is_owner j a.owner

-- whether the equation of unknown i reads unknown j: its owner, or what bears on a transition that adds to it
abbrev pub hears : Decoded → ℕ → ℕ → Bool
hears c i j = owned_by j (slice_get c.automata i) || some (λ t. adds c i t && bears c j t) c.transitions

-- the reach system
abbrev pub reach_equations : Decoded → Equations StateSet
reach_equations c = record {
  bottom = none;
  join = union;
  rank = size;
  height = 32;
  count = unknowns c;
  evaluate = λ i xs. cond (nat_lt i (unknowns c) && nat_le (unknowns c) (length xs)) (reach_of c (reached_in c xs) (possible_in c xs) i) none;
  reads = λ i j. (nat_lt i (unknowns c) && nat_lt j (unknowns c)) && hears c i j;
}
