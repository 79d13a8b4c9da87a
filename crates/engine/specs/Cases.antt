-- The worked cases: small files, one instant after the start on each, and its answer. Assumes nothing.
use Rattle.std.specs.Prelude.{◌≡◌, ℕ, ◌-◌, ◌/◌, ◌%◌, List, [], ◌∷◌, ◌++◌, length, replicate, codes, Ok, Err, Result}
use Rattle.std.specs.Borrow.{Bor}
use Rattle.std.specs.List.{flat_map}
use Rattle.chart.specs.Decoded.{decode}
use Rattle.chart.specs.Layout.{Layout}
use Rattle.reaction.specs.declared.fault.Fault.{Fault}
use Rattle.reaction.specs.declared.fault.Fault.TheVariants.{Instant}
use Rattle.reaction.specs.declared.fault.InstantFault.TheVariants.{Unresolved, LongLine}
use Rattle.engine.specs.Answer.{Reply, accepted, at_start, outcome_of, refused}
use Rattle.engine.specs.declared.cases.Case.{Case}

-- an answer without the statuses: the bytes of the line, or a fault
abbrev pub Said : Type 0
Said = Result (List ℕ) Fault

-- a reply without its statuses
abbrev pub said : Reply → Said
said (refused why) = Err why
said (accepted statuses bytes) = Ok bytes

-- a case: what it shows, the bytes of the file, the mask, the number of places, the room for the line, and the answer
pub record Row : Type 0 where
  pub name : List ℕ
  pub file : List ℕ
  pub mask : ℕ
  pub places : ℕ
  pub room : ℕ
  pub answer : Said

-- an answer as the code has it
abbrev pub answer_of : Result (Bor (List ℕ)) Fault → Said
answer_of (Ok bytes) = Ok bytes.now
answer_of (Err why) = Err why

-- a case as the code has it
abbrev pub row_of : Case → Row
row_of c = record { name = c.name.now; file = c.file.now; mask = c.mask; places = c.places; room = c.room; answer = answer_of c.expected }

-- what the first instant after the start answers
abbrev pub first_said : Row → Said
first_said row = said (outcome_of (decode row.file) (at_start (decode row.file)) row.mask row.places row.room).reply

-- a case is right: its file keeps the layout, and the instant answers as it says
abbrev pub Right : Row → Type 0
Right row = Layout row.file × (first_said row ≡ row.answer)

-- a number in four bytes, the highest first
abbrev pub four : ℕ → List ℕ
four n = (n / 16777216) ∷ ((n / 65536) % 256) ∷ ((n / 256) % 256) ∷ (n % 256) ∷ []

-- a mask of the first signals in eight bytes
abbrev pub eight : ℕ → List ℕ
eight mask = four 0 ++ four mask

-- the bytes of a signal: kind, combining, name
abbrev pub signal_bytes : (kind combining : ℕ) → List ℕ → List ℕ
signal_bytes kind combining name = kind ∷ combining ∷ (name ++ replicate (8 - length name) 0)

-- the bytes of an automaton: owner and owner state, how many states, the first
abbrev pub automaton_bytes : (owner state states first : ℕ) → List ℕ
automaton_bytes owner state states first = owner ∷ state ∷ states ∷ first ∷ []

-- the bytes of a transition
abbrev pub transition_bytes : (automaton source target needed forbidden emitted amount : ℕ) → List ℕ
transition_bytes automaton source target needed forbidden emitted amount =
    automaton ∷ source ∷ target ∷ (eight needed ++ (eight forbidden ++ (eight emitted ++ four amount)))

-- a count, and the records after it
abbrev pub section_bytes : List (List ℕ) → List ℕ
section_bytes records = length records ∷ flat_map (λ r. r) records

-- the three sections of a file
abbrev pub file_of : (signals automata transitions : List (List ℕ)) → List ℕ
file_of signals automata transitions = section_bytes signals ++ (section_bytes automata ++ section_bytes transitions)

-- an automaton at the top that starts in state 0
abbrev pub top : (states : ℕ) → List ℕ
top states = automaton_bytes 255 0 states 0

-- on ask the first goes from 0 to 1 and emits hold; on hold the second goes from 0 to 1 and emits sold with amount 45
abbrev pub handover : List ℕ
handover = file_of (signal_bytes 0 0 (codes "ask") ∷ signal_bytes 1 0 (codes "hold") ∷ signal_bytes 1 1 (codes "sold") ∷ []) (top 2 ∷ top 2 ∷ [])
    (transition_bytes 0 0 1 1 0 2 0 ∷ transition_bytes 1 0 1 2 0 4 45 ∷ [])

-- one output and one automaton of one state with these transitions
abbrev pub alone : List (List ℕ) → List ℕ
alone transitions = file_of (signal_bytes 1 0 (codes "x") ∷ []) (top 1 ∷ []) transitions

-- the output is emitted under itself
abbrev pub under_itself : List ℕ
under_itself = transition_bytes 0 0 0 1 0 1 0

-- the output is emitted under its absence
abbrev pub under_absence : List ℕ
under_absence = transition_bytes 0 0 0 0 1 1 0

-- one is emitted under in and two; two is emitted under one and not in
abbrev pub cycle : List ℕ
cycle = file_of (signal_bytes 0 0 (codes "in") ∷ signal_bytes 1 0 (codes "one") ∷ signal_bytes 1 0 (codes "two") ∷ []) (top 1 ∷ top 1 ∷ [])
    (transition_bytes 0 0 0 5 0 2 0 ∷ transition_bytes 1 0 0 2 1 4 0 ∷ [])

-- on ask the owner leaves state 0 for 1, and its part in state 0 goes to 1 and emits hold
abbrev pub owned : List ℕ
owned = file_of (signal_bytes 0 0 (codes "ask") ∷ signal_bytes 1 0 (codes "hold") ∷ []) (top 2 ∷ automaton_bytes 0 0 2 0 ∷ [])
    (transition_bytes 0 0 1 1 0 0 0 ∷ transition_bytes 1 0 1 1 0 2 0 ∷ [])

-- on ask two automata emit sum and most, with these amounts
abbrev pub amounts : (one other : ℕ) → List ℕ
amounts one other = file_of (signal_bytes 0 0 (codes "ask") ∷ signal_bytes 1 1 (codes "sum") ∷ signal_bytes 1 2 (codes "most") ∷ []) (top 1 ∷ top 1 ∷ [])
    (transition_bytes 0 0 0 1 0 6 one ∷ transition_bytes 1 0 0 1 0 6 other ∷ [])

-- the cases
abbrev pub rows : List Row
rows =
    record { name = codes "ask_sells"; file = handover; mask = 1; places = 3; room = 22; answer = Ok (codes "1: hold sold=45 / 1 1\n") } ∷
    record { name = codes "silence"; file = handover; mask = 0; places = 3; room = 22; answer = Ok (codes "1: / 0 0\n") } ∷
    record { name = codes "self_supporting"; file = alone (under_itself ∷ []); mask = 0; places = 1; room = 22; answer = Err (Instant (Unresolved 1)) } ∷
    record { name = codes "self_denying"; file = alone (under_absence ∷ []); mask = 0; places = 1; room = 22; answer = Err (Instant (Unresolved 1)) } ∷
    record { name = codes "either_way"; file = alone (under_itself ∷ under_absence ∷ []); mask = 0; places = 1; room = 22; answer = Err (Instant (Unresolved 1)) } ∷
    record { name = codes "resolved_cycle"; file = cycle; mask = 1; places = 3; room = 22; answer = Ok (codes "1: / 0 0\n") } ∷
    record { name = codes "owner_leaves"; file = owned; mask = 1; places = 2; room = 22; answer = Ok (codes "1: hold / 1 -\n") } ∷
    record { name = codes "amounts_combined"; file = amounts 45 30; mask = 1; places = 3; room = 40; answer = Ok (codes "1: sum=75 most=45 / 0 0\n") } ∷
    record { name = codes "sum_stops"; file = amounts 4294967295 1; mask = 1; places = 3; room = 40; answer = Ok (codes "1: sum=4294967295 most=4294967295 / 0 0\n") } ∷
    record { name = codes "line_too_short"; file = handover; mask = 1; places = 3; room = 21; answer = Err (Instant (LongLine 22)) } ∷ []
