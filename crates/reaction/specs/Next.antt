-- The next configuration, and the starting one. Assumes nothing.
use Rattle.std.specs.Prelude.{◌≡◌, ℕ, ◌-◌, ◌<◌, Bool, cond, List, [], ◌∷◌, ◌++◌, map, length, get_or, replicate, Some, None, Option, ◌==◌, slice_index_or}
use Rattle.chart.specs.Decoded.{Decoded, transition}
use Rattle.chart.specs.declared.automaton.Automaton.{Automaton}
use Rattle.chart.specs.declared.automaton.Owner.{Owner}
use Rattle.chart.specs.declared.transition.Transition.{Transition}
use Rattle.reaction.specs.Value.{chosen}
use Rattle.reaction.specs.declared.next.Outcome.{Outcome}
use Rattle.reaction.specs.declared.next.Outcome.TheVariants.{Gone, Stays, Enters}

-- the state that an automaton then holds
abbrev pub state_of : Outcome → Option ℕ
state_of Gone = None
state_of (Stays state) = Some state
state_of (Enters state) = Some state

-- an automaton that does nothing keeps what it holds
abbrev pub kept : Option ℕ → Outcome
kept None = Gone
kept (Some state) = Stays state

-- an automaton that is started enters its first state
abbrev pub started : Automaton → Outcome
started a = Enters a.first

-- an automaton with these fired transitions moves to the target of the first, or stays; in a decided instant there is at most one
abbrev pub moved : List Transition → Option ℕ → Outcome
moved [] state = kept state
moved (t ∷ others) state = Enters t.target

-- the fired transitions of automaton k, in file order
abbrev pub fired_by : Decoded → (ℕ → Bool) → ℕ → List Transition
fired_by c fired k = map (transition c) (chosen fired (λ i. (transition c i).automaton == k) (length c.transitions))

-- what becomes of an automaton, given the owner state, what became of its owner, what it does by itself, and its start:
-- it holds none if its owner does not hold the owner state afterwards; it is started if the owner does and has fired or was started;
-- otherwise it does what it does by itself
abbrev pub owned : ℕ → Outcome → Outcome → Outcome → Outcome
owned state Gone itself start = Gone
owned state (Stays held) itself start = cond (held == state) itself Gone
owned state (Enters held) itself start = cond (held == state) start Gone

-- the same, given its owner and what became of the automata before it: at the top it does what it does by itself
abbrev pub under : Option Owner → List Outcome → Outcome → Outcome → Outcome
under None before itself start = itself
under (Some o) before itself start = owned o.state (get_or before o.automaton Gone) itself start

-- what becomes of these automata, after those of which it is known, where `itself k` is what automaton k does by itself: owners come first
abbrev pub settled : (ℕ → Outcome) → List Automaton → List Outcome → List Outcome
settled itself [] before = before
settled itself (a ∷ later) before = settled itself later (before ++ (under a.owner before (itself (length before)) (started a) ∷ []))

-- the states that the automata then hold
abbrev pub states_of : Decoded → (ℕ → Outcome) → List (Option ℕ)
states_of c itself = map state_of (settled itself c.automata [])

-- the automaton for numbers beyond the last
abbrev pub no_automaton : Automaton
no_automaton = record { owner = None; states = 0; first = 0 }

-- automaton k of a chart
abbrev pub automaton : Decoded → ℕ → Automaton
automaton c k = slice_index_or c.automata k no_automaton

-- an outcome of which this is known, of automaton k, is what automaton k does by itself
abbrev pub Gives : Decoded → (ℕ → Automaton → Outcome → Type 0) → (ℕ → Outcome) → Type 0
Gives c known itself = (k : ℕ) (o : Outcome) → k < length c.automata → known k (automaton c k) o → o ≡ itself k

-- the next configuration: by itself an automaton moves by its fired transition, or stays
abbrev pub next : Decoded → (ℕ → Bool) → List (Option ℕ) → List (Option ℕ)
next c fired states = states_of c (λ k. moved (fired_by c fired k) (slice_index_or states k None))

-- the starting configuration: the top automata start, and every automaton whose owner starts in its owner state; the others hold none
abbrev pub starting : Decoded → List (Option ℕ)
starting c = states_of c (λ k. started (automaton c k))

-- a configuration has 32 places; beyond the last automaton they hold none
abbrev pub padded : List (Option ℕ) → List (Option ℕ)
padded states = states ++ replicate (32 - length states) None
