-- The signals of a chart, with their numbers. Assumes nothing.
use Rattle.std.proofs.Common.{◌≡◌, ℕ, ◌<◌, List, None, Some, Option, sym, ap, ◌∙◌, drop, inl, arith, length, zero-add}
use Rattle.std.specs.Iterator.{Yields, YieldsFirst, item_count}
use Rattle.std.specs.Iterator.Adapters.{enumerate_count, enumerate_source, enumerate_steps}
use Rattle.std.specs.Iterator.Runs.{CountFits}
use Rattle.std.specs.List.{enumerate_from, slice_get}
use Rattle.std.specs.declared.iter.Enumerate.{Enumerate}
use Rattle.std.proofs.lemmas.Iterator.{YieldsList}
use Rattle.std.proofs.lemmas.Iterator.Consumers.{YieldsList-at, YieldsList-end, YieldsList-from_enumerate, YieldsList-from_first, YieldsList-turn}
use Rattle.std.proofs.lemmas.List.{length-drop}
use Rattle.std.proofs.lemmas.List.FromFn.{get_or-enumerate_from, length-enumerate_from}
use Rattle.std.proofs.lemmas.Option.{slice_get-get_or}
use Rattle.chart.proofs.Decoding.{few_signals}
use Rattle.chart.specs.Decoded.{decode}
use Rattle.chart.specs.declared.records.Records.{Records}
use Rattle.chart.specs.declared.signal.Signal.{Signal}

-- what an iterator over signals has left
abbrev left : Records Signal → List Signal
left s = drop s.next (decode s.chart.bytes.now).signals

-- so few are left that they can be counted
pub signals_fit : (n : ℕ) (s : Records Signal) → n ≡ 0 → CountFits (YieldsFirst left) (item_count left) n s
signals_fit n s none =
    let few = few_signals s.chart.bytes.now s.chart.layout in
    let rest = length-drop s.next (decode s.chart.bytes.now).signals in
    inl (omega arith)

module _ {s e : Enumerate (Records Signal)} {first : Records Signal} (gs : List Signal) (begins : s ≡ e) (source : enumerate_source e ≡ first) (none : enumerate_count e ≡ 0) (all : left first ≡ gs)
    (xs : List (ℕ × Signal)) (t : Enumerate (Records Signal)) (ran : Yields (enumerate_steps (YieldsFirst left)) s xs t) (r : Option (ℕ × Signal)) (u : Enumerate (Records Signal)) where
  numbered : YieldsList (enumerate_steps (YieldsFirst left)) (λ p. p) s (enumerate_from 0 gs)
  numbered = YieldsList-at begins (YieldsList-from_enumerate (YieldsList-at source (YieldsList-from_first (λ g. g) left gs all)) none)

  -- the number and the signal of a turn
  pub signal_turn : (p : ℕ × Signal) → r ≡ Some p → enumerate_steps (YieldsFirst left) t r u → (length xs < length gs) × (p.0 ≡ length xs) × (slice_get gs p.0 ≡ Some p.1)
  signal_turn p is steps =
      let turn = YieldsList-turn numbered xs t ran r u p is steps in
      let within : length xs < length gs = omega (arith, turn.0, length-enumerate_from 0 gs) in
      let item = turn.1 ∙ get_or-enumerate_from 0 gs (length xs) p within in
      let number = ap (λ q. q.0) item ∙ zero-add (length xs) in
      (within, number, ap (slice_get gs) number ∙ slice_get-get_or gs (length xs) p.1 within ∙ ap Some (sym (ap (λ q. q.1) item)))

  -- there are as many turns as signals
  pub signals_end : r ≡ None → enumerate_steps (YieldsFirst left) t r u → length xs ≡ length gs
  signals_end is steps = (YieldsList-end numbered xs t ran r u is steps).1 ∙ length-enumerate_from 0 gs
