-- The test of a transition passes exactly if the rules of the layout hold of it. Assumes nothing.
use Rattle.std.proofs.Common.{◌≡◌, ℕ, ◌+◌, ◌*◌, ◌<◌, Bool, true, false, cond, not, ◌&&◌, eqb, ltb, bit_and, List, Decides, sym, refl, ◌∙◌, arith}
use Rattle.std.proofs.lemmas.Bool.{and_from, and_parts, cond-true, lt-ltb, ltb-true}
use Rattle.std.proofs.lemmas.Bool.Decides.{Decides-and, Decides-like, Decides-not}
use Rattle.bits.specs.Bits.{bit}
use Rattle.chart.specs.Check.{AreInputs, masks_good, no_input, transition_good}
use Rattle.chart.specs.Codes.{kind_of}
use Rattle.chart.specs.Decoded.{signal_at, transition_at}
use Rattle.chart.specs.Layout.{Mask, TransitionRule}
use Rattle.chart.specs.Places.{automata_at, byte, signal_count, signal_place, transitions_at}
use Rattle.chart.specs.declared.signal.Kind.TheVariants.{Input, Output, Local}
use Rattle.chart.proofs.Below.{all_below_from, all_below_is, all_below_true}
use Rattle.bits.proofs.Members.{apart_decides, mask_decides}

-- of the three kinds only the first is the input
input_first : (t u : Bool) → cond t Input (cond u Output Local) ≡ Input → t ≡ true
input_first true u e = refl
input_first false true e = let z : ◌≡◌ {A = ℕ} 0 1 = cc in absurd (omega arith)
input_first false false e = let z : ◌≡◌ {A = ℕ} 0 1 = cc in absurd (omega arith)

-- the byte 0 and no other stands for an input
input_decides : (b : ℕ) → Decides (eqb b 0) (kind_of b ≡ Input)
input_decides b = (cond-true (eqb b 0) Input (cond (eqb b 1) Output Local), input_first (eqb b 0) (eqb b 1))

-- an input whose bit is set
abbrev InputSet : List ℕ → ℕ → ℕ → Type 0
InputSet bs mask s = (bit mask s ≡ true) × ((signal_at bs s).kind ≡ Input)

-- the test of one signal
input_set_decides : (bs : List ℕ) (mask s : ℕ) → Decides (not (bit mask s && eqb (byte bs (signal_place s)) 0)) (InputSet bs mask s → ⊥)
input_set_decides bs mask s =
    Decides-not (bit mask s && eqb (byte bs (signal_place s)) 0)
    (Decides-and (bit mask s) (eqb (byte bs (signal_place s)) 0) (λ e. e, λ e. e) (input_decides (byte bs (signal_place s))))

-- the test of all signals
no_input_decides : (bs : List ℕ) (mask : ℕ) → Decides (no_input bs mask) ((s : ℕ) → s < signal_count bs → InputSet bs mask s → ⊥)
no_input_decides bs mask =
    let free : ℕ → Bool = λ s. not (bit mask s && eqb (byte bs (signal_place s)) 0) in (
      λ e s l. (input_set_decides bs mask s).0 (all_below_true free (signal_count bs) e s l),
      λ f. all_below_from free (signal_count bs) (λ s l. (input_set_decides bs mask s).1 (f s l)),
    )

-- the same test by the mask of the inputs
pub no_input_by : (bs : List ℕ) (emitted inputs : ℕ) → AreInputs bs inputs → eqb (bit_and emitted inputs) 0 ≡ no_input bs emitted
no_input_by bs emitted inputs are =
    let n = byte bs 0 in
    let input : ℕ → Bool = λ s. eqb (byte bs (1 + 10 * s)) 0 in
    let both : (s : ℕ) → Decides (not (bit emitted s && input s)) (((bit emitted s ≡ true) × (input s ≡ true)) → ⊥) = λ s.
    Decides-not (bit emitted s && input s) (Decides-and (bit emitted s) (input s) (λ e. e, λ e. e) (λ e. e, λ e. e)) in
    all_below_is (λ s. not (bit emitted s && input s)) n (eqb (bit_and emitted inputs) 0)
    (Decides-like (eqb (bit_and emitted inputs) 0)
    (λ h s l. (both s).1 (λ p. h s p.0 (are s ∙ and_from (ltb s n) (input s) (lt-ltb s n l) p.1)))
    (λ q s e i. let parts = and_parts (ltb s n) (input s) (sym (are s) ∙ i) in (both s).0 (q s (ltb-true s n parts.0)) (e, parts.1))
    (apart_decides emitted inputs))

-- the rules of a transition's masks
abbrev MaskRules : List ℕ → ℕ → ℕ → ℕ → Type 0
MaskRules bs needed forbidden emitted =
    Mask bs needed
    × (Mask bs forbidden
    × (Mask bs emitted
    × (((s : ℕ) → bit needed s ≡ true → bit forbidden s ≡ true → ⊥)
    × ((s : ℕ) → s < signal_count bs → InputSet bs emitted s → ⊥))))

-- the test of the masks
masks_decides : (bs : List ℕ) (needed forbidden emitted : ℕ) → Decides (masks_good bs needed forbidden emitted) (MaskRules bs needed forbidden emitted)
masks_decides bs needed forbidden emitted =
    Decides-and _ _ (mask_decides (signal_count bs) needed)
    (Decides-and _ _ (mask_decides (signal_count bs) forbidden)
    (Decides-and _ _ (mask_decides (signal_count bs) emitted)
    (Decides-and _ _ (apart_decides needed forbidden) (no_input_decides bs emitted))))

-- a transition that keeps the rules passes
pub transition_is_good : (bs : List ℕ) (i : ℕ) → TransitionRule bs i → transition_good bs (automata_at bs) (transitions_at bs + 1) i ≡ true
transition_is_good bs i r =
    let t = transition_at bs i in
    and_from _ _ (lt-ltb _ _ r.automaton)
    (and_from _ _ (lt-ltb _ _ r.source)
    (and_from _ _ (lt-ltb _ _ r.target)
    ((masks_decides bs t.needed t.forbidden t.emitted).1
    (r.needed, (r.forbidden, (r.emitted, (r.apart, λ s _ h. r.outgoing s h.0 h.1)))))))

-- a transition that passes keeps the rules
pub transition_keeps : (bs : List ℕ) (i : ℕ) → transition_good bs (automata_at bs) (transitions_at bs + 1) i ≡ true → TransitionRule bs i
transition_keeps bs i e =
    let t = transition_at bs i in
    let a = and_parts _ _ e in
    let s = and_parts _ _ a.1 in
    let f = and_parts _ _ s.1 in
    let m = (masks_decides bs t.needed t.forbidden t.emitted).0 f.1 in
    record {
      automaton = ltb-true _ _ a.0;
      source = ltb-true _ _ s.0;
      target = ltb-true _ _ f.0;
      needed = m.0;
      forbidden = m.1.0;
      emitted = m.1.1.0;
      apart = m.1.1.1.0;
      outgoing = λ s set input. m.1.1.1.1 s (m.1.1.0 s set) (set, input);
    }
