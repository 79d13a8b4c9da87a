-- The decoded chart, and how it is read from the bytes. Assumes nothing.
use Rattle.std.specs.Prelude.{ℕ, ◌+◌, Bool, true, false, cond, not, List, map, take, drop, Some, None, Option, ◌==◌, slice_index_or}
use Rattle.std.specs.List.{range_with_len, prefix_len, slice_get}
use Rattle.chart.specs.Codes.{kind_of, combining_of}
use Rattle.chart.specs.Places.{byte, number4, number8, signal_count, signal_place, automaton_count, automaton_place, transition_count, transition_place}
use Rattle.chart.specs.declared.automaton.Automaton.{Automaton}
use Rattle.chart.specs.declared.automaton.Owner.{Owner}
use Rattle.chart.specs.declared.signal.Kind.{Kind}
use Rattle.chart.specs.declared.signal.Kind.TheVariants.{Input, Output, Local}
use Rattle.chart.specs.declared.signal.Signal.{Signal}
use Rattle.chart.specs.declared.transition.Transition.{Transition}

-- a chart: its signals with their names, its automata, its transitions
pub record Decoded : Type 0 where
  pub signals : List Signal
  pub names : List (List ℕ)
  pub automata : List Automaton
  pub transitions : List Transition

abbrev pub signal_at : List ℕ → ℕ → Signal
signal_at bs i = record { kind = kind_of (byte bs (signal_place i)); combining = combining_of (byte bs (signal_place i + 1)) }

-- the signal that a record of ten bytes stands for
abbrev pub signal_of : List ℕ → Signal
signal_of r = record { kind = kind_of (byte r 0); combining = combining_of (byte r 1) }

-- the eight bytes that have the name of signal i
abbrev pub name_field : List ℕ → ℕ → List ℕ
name_field bs i = take 8 (drop (signal_place i + 2) bs)

-- how many bytes come before the first zero
abbrev pub name_length : List ℕ → ℕ
name_length field = prefix_len (λ b. not (b == 0)) field

-- the name without its zero bytes
abbrev pub name_at : List ℕ → ℕ → List ℕ
name_at bs i = take (name_length (name_field bs i)) (name_field bs i)

-- the owner that two bytes stand for; 255 is the top
abbrev pub owner_of : ℕ → ℕ → Option Owner
owner_of automaton state = cond (automaton == 255) None (Some (record { automaton = automaton; state = state }))

abbrev pub automaton_at : List ℕ → ℕ → Automaton
automaton_at bs i = record {
  owner = owner_of (byte bs (automaton_place bs i)) (byte bs (automaton_place bs i + 1));
  states = byte bs (automaton_place bs i + 2);
  first = byte bs (automaton_place bs i + 3);
}

-- the automaton that a record of four bytes stands for
abbrev pub automaton_of : List ℕ → Automaton
automaton_of r = record { owner = owner_of (byte r 0) (byte r 1); states = byte r 2; first = byte r 3 }

abbrev pub transition_at : List ℕ → ℕ → Transition
transition_at bs i = record {
  automaton = byte bs (transition_place bs i);
  source = byte bs (transition_place bs i + 1);
  target = byte bs (transition_place bs i + 2);
  needed = number8 bs (transition_place bs i + 3);
  forbidden = number8 bs (transition_place bs i + 11);
  emitted = number8 bs (transition_place bs i + 19);
  amount = number4 bs (transition_place bs i + 27);
}

-- the transition that a record of 31 bytes stands for
abbrev pub transition_of : List ℕ → Transition
transition_of r = record {
  automaton = byte r 0;
  source = byte r 1;
  target = byte r 2;
  needed = number8 r 3;
  forbidden = number8 r 11;
  emitted = number8 r 19;
  amount = number4 r 27;
}

unfoldable pub decode : List ℕ → Decoded
decode bs = record {
  signals = map (signal_at bs) (range_with_len 0 (signal_count bs));
  names = map (name_at bs) (range_with_len 0 (signal_count bs));
  automata = map (automaton_at bs) (range_with_len 0 (automaton_count bs));
  transitions = map (transition_at bs) (range_with_len 0 (transition_count bs));
}

-- the transition with no bit set, for numbers beyond the last
abbrev pub no_transition : Transition
no_transition = record { automaton = 0; source = 0; target = 0; needed = 0; forbidden = 0; emitted = 0; amount = 0 }

-- transition k of a chart
abbrev pub transition : Decoded → ℕ → Transition
transition c k = slice_index_or c.transitions k no_transition

abbrev pub is_input : Kind → Bool
is_input Input = true
is_input Output = false
is_input Local = false

abbrev pub is_input_signal : Option Signal → Bool
is_input_signal None = false
is_input_signal (Some g) = is_input g.kind

-- whether signal s is an input
abbrev pub input : Decoded → ℕ → Bool
input c s = is_input_signal (slice_get c.signals s)
