use Rattle.std.proofs.Common.{◌≡◌, ◌+◌, ◌*◌, ◌≤◌, sym, ◌∙◌, arith, rules}
use Rattle.chart.specs.Check.{automaton_good, section, signal_good}
use Rattle.chart.specs.Places.{byte}
use Rattle.chart.specs.declared.fault.ChartFault.TheVariants.{BrokenAutomaton, BrokenSignal}
use Rattle.chart.proofs.Sections.{section_ok}
use Rattle.chart.proofs.check.walk.Goals as goal

pub automata_within-within-requires : goal.automata_within-within-requires
automata_within-within-requires c =
    let bs = c.args.bytes.now in
    let is : c.check_section.result ≡ section 1 64 10 (signal_good bs) BrokenSignal bs 0 = c.check_section.ensures (signal_good bs) BrokenSignal (λ n a h. search rules) (λ n a h. search rules) in
    let signals = section_ok 1 64 10 (signal_good bs) BrokenSignal bs 0 c.in_ok-automata.automata (sym is ∙ c.in_ok-automata.was) in
    omega (arith, signals.0, signals.1.few)

pub inputs_of-inputs-requires : goal.inputs_of-inputs-requires
inputs_of-inputs-requires c =
    let bs = c.args.bytes.now in
    let is : c.check_section.result ≡ section 1 64 10 (signal_good bs) BrokenSignal bs 0 = c.check_section.ensures (signal_good bs) BrokenSignal (λ n a h. search rules) (λ n a h. search rules) in
    let signals = section_ok 1 64 10 (signal_good bs) BrokenSignal bs 0 c.in_ok-automata.automata (sym is ∙ c.in_ok-automata.was) in
    (signals.1.whole, signals.1.few)

pub check_section-requires-2 : goal.check_section-requires-2
check_section-requires-2 c =
    let bs = c.args.bytes.now in
    let is : c.check_section.result ≡ section 1 64 10 (signal_good bs) BrokenSignal bs 0 = c.check_section.ensures (signal_good bs) BrokenSignal (λ n a h. search rules) (λ n a h. search rules) in
    let signals = section_ok 1 64 10 (signal_good bs) BrokenSignal bs 0 c.in_ok-automata.automata (sym is ∙ c.in_ok-automata.was) in
    let few : c.in_ok-automata.automata ≤ 641 = omega (arith, signals.0, signals.1.few) in
    record { room = omega arith; tests = search rules; faults = search rules }

pub check_section-requires-3 : goal.check_section-requires-3
check_section-requires-3 c =
    let bs = c.args.bytes.now in
    let p = c.in_ok-automata.automata in
    let q = c.in_ok-transitions.transitions in
    let first : c.check_section.result ≡ section 1 64 10 (signal_good bs) BrokenSignal bs 0 = c.check_section.ensures (signal_good bs) BrokenSignal (λ n a h. search rules) (λ n a h. search rules) in
    let signals = section_ok 1 64 10 (signal_good bs) BrokenSignal bs 0 p (sym first ∙ c.in_ok-automata.was) in
    let second : c.check_section-2.result ≡ section 1 32 4 (automaton_good bs (p + 1)) BrokenAutomaton bs p = c.check_section-2.ensures (automaton_good bs (p + 1)) BrokenAutomaton (λ n a h. search rules) (λ n a h. search rules) in
    let automata = section_ok 1 32 4 (automaton_good bs (p + 1)) BrokenAutomaton bs p q (sym second ∙ c.in_ok-transitions.was) in
    let at : p ≡ 1 + 10 * byte bs 0 = signals.0 in
    let next : q ≡ p + 1 + 4 * byte bs p = automata.0 in
    let few : q ≤ 770 = omega (arith, signals.0, signals.1.few, automata.0, automata.1.few) in
    record { room = omega arith; tests = search rules; faults = search rules }
