-- Chains over the transitions of a chart. Assumes nothing.
use Rattle.std.proofs.Common.{◌≡◌, ℕ, true, List, None, Some, Option, sym, ◌∙◌, take, drop, subst, inl, arith, get_or, length, ◌<◌}
use mathlib.Core.List.{map-id}
use Rattle.std.specs.Iterator.{DrainsIf, Yields, YieldsFirst, item_count}
use Rattle.std.specs.Iterator.Adapters.{enumerate_count, enumerate_source, enumerate_steps, take_count, take_source, take_steps}
use Rattle.std.specs.Iterator.Runs.{CountFits, Run, YieldsRun}
use Rattle.std.specs.List.{enumerate_from}
use Rattle.std.specs.declared.iter.Enumerate.{Enumerate}
use Rattle.std.specs.declared.iter.Take.{Take}
use Rattle.std.proofs.lemmas.Iterator.{YieldsList, YieldsList-from_take, items_from_drains}
use Rattle.std.proofs.lemmas.Iterator.Consumers.{YieldsList-at, YieldsList-end, YieldsList-from_enumerate, YieldsList-from_first, YieldsList-turn}
use Rattle.std.proofs.lemmas.List.{length-drop}
use Rattle.std.proofs.lemmas.List.FromFn.{length-enumerate_from}
use Rattle.chart.proofs.Decoding.{few_transitions}
use Rattle.chart.specs.Decoded.{decode}
use Rattle.chart.specs.declared.transition.Transition.{Transition}
use Rattle.chart.specs.declared.records.Records.{Records}

-- an iterator over a chart's transitions
abbrev pub Transitions : Type 0
Transitions = Records Transition

-- what it has left
abbrev pub left : Transitions → List Transition
left s = drop s.next (decode s.chart.bytes.now).transitions

module _ {first : Transitions} (ts : List Transition) where
  -- a chain over the transitions
  pub over : left first ≡ ts → YieldsList (YieldsFirst left) (λ t. t) first ts
  over = YieldsList-from_first (λ t. t) left ts

  -- over the first k of them
  pub over_first : {s : Take Transitions} (k : ℕ) → take_source s ≡ first → take_count s ≡ k → left first ≡ ts → YieldsList (take_steps (YieldsFirst left)) (λ t. t) s (take k ts)
  over_first k source count all = YieldsList-from_take k (YieldsList-at source (over all)) count

  -- over all with their numbers
  pub over_numbered : {s : Enumerate Transitions} → enumerate_source s ≡ first → enumerate_count s ≡ 0 → left first ≡ ts → YieldsList (enumerate_steps (YieldsFirst left)) (λ p. p) s (enumerate_from 0 ts)
  over_numbered source none all = YieldsList-from_enumerate (YieldsList-at source (over all)) none

-- the item of a turn of a `for` over all with their numbers, after the items xs
pub numbered_turn : {s e : Enumerate Transitions} {first : Transitions} (ts : List Transition) → s ≡ e → enumerate_source e ≡ first → enumerate_count e ≡ 0 → left first ≡ ts
    → (xs : List (ℕ × Transition)) (t : Enumerate Transitions) → Yields (enumerate_steps (YieldsFirst left)) s xs t
    → (r : Option (ℕ × Transition)) (u : Enumerate Transitions) (p : ℕ × Transition) → r ≡ Some p → enumerate_steps (YieldsFirst left) t r u
    → (length xs < length (enumerate_from 0 ts)) × (p ≡ get_or (enumerate_from 0 ts) (length xs) p)
numbered_turn ts begins source none all = YieldsList-turn (YieldsList-at begins (over_numbered ts source none all))

-- a whole `for` over all with their numbers has as many turns as there are transitions
pub numbered_end : {s e : Enumerate Transitions} {first : Transitions} (ts : List Transition) → s ≡ e → enumerate_source e ≡ first → enumerate_count e ≡ 0 → left first ≡ ts
    → (xs : List (ℕ × Transition)) (t : Enumerate Transitions) → Yields (enumerate_steps (YieldsFirst left)) s xs t
    → (r : Option (ℕ × Transition)) (u : Enumerate Transitions) → r ≡ None → enumerate_steps (YieldsFirst left) t r u
    → length xs ≡ length ts
numbered_end ts begins source none all xs t ran r u is steps =
    (YieldsList-end (YieldsList-at begins (over_numbered ts source none all)) xs t ran r u is steps).1 ∙ length-enumerate_from 0 ts

-- so few are left that they can be counted
pub count_fits : (n : ℕ) (s : Transitions) → n ≡ 0 → CountFits (YieldsFirst left) (item_count left) n s
count_fits n s none =
    let few = few_transitions s.chart.bytes.now s.chart.layout in
    let rest = length-drop s.next (decode s.chart.bytes.now).transitions in
    inl (omega arith)

-- the items of a whole run are the list that the chain gives
pub items_of_run : {S A : Type 0} {steps : S → Option A → S → Type 0} {s : S} {all : List A} (p : Run steps) → p.from ≡ s → p.whole ≡ true → YieldsList steps (λ x. x) s all → p.items ≡ all
unfolding YieldsRun
items_of_run {S} {A} {steps} {s} {all} p from whole chain =
    let drained = subst (λ (t : S). DrainsIf steps (p.whole ≡ true) t p.items) from p.gave.0 in
    sym (map-id p.items) ∙ items_from_drains p.items (drained.0, drained.1, λ _. drained.2 whole) chain
