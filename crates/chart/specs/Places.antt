-- Where the sections and records of a chart file stand. Assumes nothing.
use Rattle.std.specs.Prelude.{ℕ, ◌+◌, ◌*◌, cond, List, map, take, drop, Some, None, Option, nat_lt, slice_index}
use Rattle.std.specs.List.{range_with_len}

-- the byte at a place
abbrev pub byte : List ℕ → ℕ → ℕ
byte bs k = slice_index bs k

-- the signals' count is the first byte
abbrev pub signal_count : List ℕ → ℕ
signal_count bs = byte bs 0

abbrev pub signal_place : ℕ → ℕ
signal_place i = 1 + 10 * i

-- the place of the automata's count
abbrev pub automata_at : List ℕ → ℕ
automata_at bs = signal_place (signal_count bs)

abbrev pub automaton_count : List ℕ → ℕ
automaton_count bs = byte bs (automata_at bs)

abbrev pub automaton_place : List ℕ → ℕ → ℕ
automaton_place bs i = automata_at bs + 1 + 4 * i

-- the place of the transitions' count
abbrev pub transitions_at : List ℕ → ℕ
transitions_at bs = automaton_place bs (automaton_count bs)

abbrev pub transition_count : List ℕ → ℕ
transition_count bs = byte bs (transitions_at bs)

abbrev pub transition_place : List ℕ → ℕ → ℕ
transition_place bs i = transitions_at bs + 1 + 31 * i

-- where the file ends
abbrev pub end_of : List ℕ → ℕ
end_of bs = transition_place bs (transition_count bs)

-- big-endian numbers of four and of eight bytes
abbrev pub number4 : List ℕ → ℕ → ℕ
number4 bs p = byte bs p * 16777216 + byte bs (p + 1) * 65536 + byte bs (p + 2) * 256 + byte bs (p + 3)

abbrev pub number8 : List ℕ → ℕ → ℕ
number8 bs p =
    byte bs p * 72057594037927936 + byte bs (p + 1) * 281474976710656 + byte bs (p + 2) * 1099511627776 + byte bs (p + 3) * 4294967296
    + byte bs (p + 4) * 16777216 + byte bs (p + 5) * 65536 + byte bs (p + 6) * 256 + byte bs (p + 7)

-- record i of the section whose count stands at place p, `size` bytes; none for any other number
abbrev pub record_of : List ℕ → ℕ → ℕ → ℕ → Option (List ℕ)
record_of bs p size i = cond (nat_lt i (byte bs p)) (Some (take size (drop (p + 1 + size * i) bs))) None

-- n records of `size` bytes from place p on
abbrev pub records_from : List ℕ → ℕ → ℕ → ℕ → List (List ℕ)
records_from bs size p n = map (λ k. take size (drop (p + size * k) bs)) (range_with_len 0 n)
