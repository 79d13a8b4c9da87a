-- The walk ends well exactly if the file keeps the layout. Assumes nothing.
use Rattle.std.proofs.Common.{◌≡◌, ℕ, ◌+◌, cond, ltb, List, length, Ok, Err, Result, subst, arith}
use Rattle.std.proofs.lemmas.Bool.{cond-false, le-ltb, ltb-false}
use Rattle.chart.specs.Check.{and_then, automaton_good, section, signal_good, transition_good, verdict}
use Rattle.chart.specs.Layout.{Layout}
use Rattle.chart.specs.Places.{signal_count, automata_at, automaton_count, transitions_at, end_of}
use Rattle.chart.specs.declared.fault.ChartFault.{ChartFault}
use Rattle.chart.specs.declared.fault.ChartFault.TheVariants.{BrokenSignal, BrokenAutomaton, BrokenTransition, BytesRemain}
use Rattle.chart.proofs.AutomatonRules.{automata_good, automata_keep}
use Rattle.chart.proofs.Sections.{Whole, both_ok, both_from, section_ok, section_from, unless}
use Rattle.chart.proofs.SignalRules.{signals_good, signals_keep}
use Rattle.chart.proofs.TransitionRules.{transition_is_good, transition_keeps}

-- the three sections stand where the counts before them say, and the file ends after them
pub record Walked (bs : List ℕ) : Type 0 where
  pub signals : Whole 1 64 10 (signal_good bs) bs 0
  pub automata : Whole 1 32 4 (automaton_good bs (automata_at bs + 1)) bs (automata_at bs)
  pub transitions : Whole 0 128 31 (transition_good bs (automata_at bs) (transitions_at bs + 1)) bs (transitions_at bs)
  pub ends : length bs ≡ end_of bs

-- what follows the transitions, the automata, the signals
abbrev after_transitions : List ℕ → ℕ → Result (Unit {0}) ChartFault
after_transitions bs e = cond (ltb e (length bs)) (Err (BytesRemain e)) (Ok tt)

abbrev after_automata : List ℕ → ℕ → ℕ → Result (Unit {0}) ChartFault
after_automata bs p q = and_then (section 0 128 31 (transition_good bs p (q + 1)) BrokenTransition bs q) (after_transitions bs)

abbrev after_signals : List ℕ → ℕ → Result (Unit {0}) ChartFault
after_signals bs p = and_then (section 1 32 4 (automaton_good bs (p + 1)) BrokenAutomaton bs p) (after_automata bs p)

pub verdict_ok : (bs : List ℕ) → verdict bs ≡ Ok tt → Walked bs
verdict_ok bs h =
    let a = both_ok (section 1 64 10 (signal_good bs) BrokenSignal bs 0) (after_signals bs) tt h in
    let signals = section_ok 1 64 10 (signal_good bs) BrokenSignal bs 0 a.0 a.1 in
    let p = automata_at bs in
    let b = both_ok (section 1 32 4 (automaton_good bs (p + 1)) BrokenAutomaton bs p) (after_automata bs p) tt (subst (λ k. after_signals bs k ≡ Ok tt) signals.0 a.2) in
    let automata = section_ok 1 32 4 (automaton_good bs (p + 1)) BrokenAutomaton bs p b.0 b.1 in
    let q = transitions_at bs in
    let c = both_ok (section 0 128 31 (transition_good bs p (q + 1)) BrokenTransition bs q) (after_transitions bs) tt (subst (λ k. after_automata bs p k ≡ Ok tt) automata.0 b.2) in
    let transitions = section_ok 0 128 31 (transition_good bs p (q + 1)) BrokenTransition bs q c.0 c.1 in
    let last = unless (ltb (end_of bs) (length bs)) (BytesRemain (end_of bs)) (Ok tt) tt (subst (λ k. after_transitions bs k ≡ Ok tt) transitions.0 c.2) in
    let whole = transitions.1.whole in
    record {
      signals = signals.1;
      automata = automata.1;
      transitions = transitions.1;
      ends = omega (arith, ltb-false (end_of bs) (length bs) last.0);
    }

pub verdict_from : (bs : List ℕ) → Walked bs → verdict bs ≡ Ok tt
verdict_from bs w =
    both_from _ (after_signals bs) (automata_at bs) tt (section_from 1 64 10 (signal_good bs) BrokenSignal bs 0 w.signals)
    (both_from _ (after_automata bs (automata_at bs)) (transitions_at bs) tt (section_from 1 32 4 (automaton_good bs (automata_at bs + 1)) BrokenAutomaton bs (automata_at bs) w.automata)
    (both_from _ (after_transitions bs) (end_of bs) tt (section_from 0 128 31 (transition_good bs (automata_at bs) (transitions_at bs + 1)) BrokenTransition bs (transitions_at bs) w.transitions)
    (cond-false (ltb (end_of bs) (length bs)) _ _ (le-ltb (end_of bs) (length bs) (omega (arith, w.ends))))))

pub layout_from : (bs : List ℕ) → Walked bs → Layout bs
layout_from bs w =
    let signals = signals_keep bs (signal_count bs) w.signals.whole w.signals.kept in
    let automata = automata_keep bs (automaton_count bs) w.automata.kept in
    record {
      some_signals = w.signals.some;
      few_signals = w.signals.few;
      some_automata = w.automata.some;
      few_automata = w.automata.few;
      few_transitions = w.transitions.few;
      ends = w.ends;
      signals = signals.0;
      names = signals.1;
      automata = automata.0;
      together = automata.1;
      transitions = λ i l. transition_keeps bs i (w.transitions.kept i l);
    }

pub layout_walked : (bs : List ℕ) → Layout bs → Walked bs
layout_walked bs h =
    let ends = h.ends in
    record {
      signals = record {
        starts = omega arith;
        some = h.some_signals;
        few = h.few_signals;
        whole = omega arith;
        kept = signals_good bs (signal_count bs) (omega arith) h.signals h.names;
      };
      automata = record {
        starts = omega arith;
        some = h.some_automata;
        few = h.few_automata;
        whole = omega arith;
        kept = automata_good bs (automaton_count bs) h.automata h.together;
      };
      transitions = record {
        starts = omega arith;
        some = omega arith;
        few = h.few_transitions;
        whole = omega arith;
        kept = λ i l. transition_is_good bs i (h.transitions i l);
      };
      ends = ends;
    }
