-- The printed line of an accepted instant. Assumes nothing.
use Rattle.std.specs.Prelude.{◌≡◌, ℕ, ◌<◌, Bool, true, false, cond, ◌&&◌, List, [], ◌++◌, length, drop, Some, None, Ok, Err, codes, decimal, Option, Result, nat_lt, slice_index_or}
use Rattle.std.specs.List.{range_with_len, flat_map, slice_get}
use Rattle.chart.specs.Decoded.{Decoded, decode}
use Rattle.chart.specs.declared.automaton.Automaton.{Automaton}
use Rattle.chart.specs.declared.signal.Kind.{Kind}
use Rattle.chart.specs.declared.signal.Kind.TheVariants.{Input, Output, Local}
use Rattle.chart.specs.declared.signal.Signal.{Signal}
use Rattle.fixpoint.specs.Marks.{marked}
use Rattle.status.specs.declared.status.Status.{Status}
use Rattle.reaction.specs.Value.{present, values}
use Rattle.reaction.specs.declared.fault.InstantFault.{InstantFault}
use Rattle.reaction.specs.declared.fault.InstantFault.TheVariants.{LongLine}
use Rattle.trace.specs.declared.line.Line.{Line}

abbrev pub is_output : Kind → Bool
is_output Input = false
is_output Output = true
is_output Local = false

abbrev pub is_output_signal : Option Signal → Bool
is_output_signal None = false
is_output_signal (Some g) = is_output g.kind

-- whether signal s is an output
abbrev pub output : Decoded → ℕ → Bool
output c s = is_output_signal (slice_get c.signals s)

-- the text of a value
abbrev pub value_text : Option ℕ → List ℕ
value_text None = []
value_text (Some v) = codes "=" ++ decimal v

-- the text of an output: a space, its name and its value
abbrev pub output_text : List ℕ → Option ℕ → List ℕ
output_text name value = codes " " ++ name ++ value_text value

-- the text of signal s: nothing unless it is a present output
abbrev pub signal_text : Decoded → List Status → List (Option ℕ) → ℕ → List ℕ
signal_text c statuses values s = cond (output c s && present statuses s) (output_text (slice_index_or c.names s []) (slice_index_or values s None)) []

-- the text of all signals, in number order
abbrev pub signals_text : Decoded → List Status → List (Option ℕ) → List ℕ
signals_text c statuses values = flat_map (signal_text c statuses values) (range_with_len 0 (length c.signals))

-- the state that an automaton holds, or `-`
abbrev pub held_text : Option ℕ → List ℕ
held_text None = codes "-"
held_text (Some state) = decimal state

-- a space and the state
abbrev pub space_held : Option ℕ → List ℕ
space_held held = codes " " ++ held_text held

-- the text of automaton k
abbrev pub state_text : List (Option ℕ) → ℕ → List ℕ
state_text states k = space_held (slice_index_or states k None)

-- the text of all automata
abbrev pub states_text : Decoded → List (Option ℕ) → List ℕ
states_text c states = flat_map (state_text states) (range_with_len 0 (length c.automata))

-- the line: the count, a colon, the present outputs in number order, a slash, the states of the automata, a line feed
unfoldable pub line_of : Decoded → ℕ → List Status → List (Option ℕ) → List (Option ℕ) → List ℕ
line_of c count statuses values states =
    decimal count ++ codes ":" ++ signals_text c statuses values ++ codes " /" ++ states_text c states ++ codes "\n"

-- each state that is held is a state of its automaton
abbrev pub StatesWithin : Decoded → List (Option ℕ) → Type 0
StatesWithin c states = (k : ℕ) (a : Automaton) (s : ℕ) → slice_get c.automata k ≡ Some a → slice_index_or states k None ≡ Some s → s < a.states

-- what writing a line to n places answers: its length, or that it is longer
abbrev pub write_answer : List ℕ → ℕ → Result ℕ InstantFault
write_answer line n = cond (nat_lt n (length line)) (Err (LongLine (length line))) (Ok (length line))

-- the places after it: the line and the rest of what they held; after a refusal all that they held
abbrev pub write_buffer : List ℕ → List ℕ → List ℕ
write_buffer line before = cond (nat_lt (length before) (length line)) before (line ++ drop (length line) before)

-- the chart of a `Line`, and the values of its signals
abbrev pub chart_of : Line → Decoded
chart_of l = decode l.chart.bytes.now

abbrev pub values_of : Line → List (Option ℕ)
values_of l = values (chart_of l) (marked l.fired.set) l.statuses.now

-- the line that it tells
abbrev pub told_line : Line → List ℕ
told_line l = line_of (chart_of l) l.count l.statuses.now (values_of l) l.after.now.states
