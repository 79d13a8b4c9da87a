-- The numbers of a chart's transitions and of its other records, as an iterator gives them. Assumes nothing.
use Rattle.std.proofs.Common.{◌≡◌, ℕ, ◌+◌, ◌^◌, ◌<◌, ◌≤◌, List, inl, Some, None, Option, drop, length, sym, ap, ◌∙◌, arith}
use Rattle.std.specs.Iterator.{Yields, YieldsFirst, item_count}
use Rattle.std.specs.Iterator.Adapters.{enumerate_count, enumerate_source, enumerate_steps}
use Rattle.std.specs.Iterator.Runs.{CountFits}
use Rattle.std.specs.List.{enumerate_from, slice_get}
use Rattle.std.specs.declared.iter.Enumerate.{Enumerate}
use Rattle.std.proofs.lemmas.Iterator.{YieldsList}
use Rattle.std.proofs.lemmas.Iterator.Consumers.{YieldsList-at, YieldsList-end, YieldsList-from_enumerate, YieldsList-from_first, YieldsList-turn}
use Rattle.std.proofs.lemmas.List.{length-drop}
use Rattle.std.proofs.lemmas.List.FromFn.{get_or-enumerate_from, length-enumerate_from}
use Rattle.std.proofs.lemmas.Option.{slice_get_read}
use Rattle.chart.specs.Decoded.{Decoded, decode}
use Rattle.chart.specs.Layout.{Layout}
use Rattle.chart.specs.declared.records.Records.{Records}
use Rattle.chart.proofs.Chains.{Transitions, left}
use Rattle.chart.proofs.Decoding.{few_transitions}

-- their numbers fit
pub numbers_fit : (bytes : List ℕ) (s : Enumerate Transitions) (t : Transitions) → left t ≡ (decode bytes).transitions → enumerate_source s ≡ t → enumerate_count s ≡ 0
    → ∥ Layout bytes ∥₁ → enumerate_count s + length (left (enumerate_source s)) < 2 ^ 64
numbers_fit bytes s t all source count layout = let few = few_transitions bytes layout in omega (arith, ap length (ap left source ∙ all))

-- records of one kind, of which a chart lists these
module _ {R : Type 0} (listed : Decoded → List R) where
  -- what an iterator over them has left
  abbrev pub rest : Records R → List R
  rest s = drop s.next (listed (decode s.chart.bytes.now))

  -- so few are left that they can be counted
  pub few_left : ((bs : List ℕ) → ∥ Layout bs ∥₁ → length (listed (decode bs)) ≤ 128) → (n : ℕ) (s : Records R) → n ≡ 0 → CountFits (YieldsFirst rest) (item_count rest) n s
  few_left few n s none =
      let most = few s.chart.bytes.now s.chart.layout in
      let long = length-drop s.next (listed (decode s.chart.bytes.now)) in
      inl (omega arith)

  -- a `for` over all with their numbers
  module _ {s e : Enumerate (Records R)} {first : Records R} (rs : List R) (begins : s ≡ e) (source : enumerate_source e ≡ first) (none : enumerate_count e ≡ 0) (all : rest first ≡ rs)
      (xs : List (ℕ × R)) (t : Enumerate (Records R)) (ran : Yields (enumerate_steps (YieldsFirst rest)) s xs t) where
    over_records : YieldsList (enumerate_steps (YieldsFirst rest)) (λ p. p) s (enumerate_from 0 rs)
    over_records = YieldsList-at begins (YieldsList-from_enumerate (YieldsList-at source (YieldsList-from_first (λ r. r) rest rs all)) none)

    -- the item of a turn, after the items xs: the next number, and the record of that number
    pub record_turn : (r : Option (ℕ × R)) (u : Enumerate (Records R)) (k : ℕ) (a : R) → r ≡ Some (k, a) → enumerate_steps (YieldsFirst rest) t r u → (k ≡ length xs) × (Some a ≡ slice_get rs (length xs))
    record_turn r u k a is steps =
        let at = YieldsList-turn over_records xs t ran r u (k, a) is steps in
        let inside : length xs < length rs = omega (arith, length-enumerate_from 0 rs, at.0) in
        let item = at.1 ∙ get_or-enumerate_from 0 rs (length xs) (k, a) inside in
        let number : 0 + length xs ≡ length xs = omega arith in
        (ap (λ p. p.0) item ∙ number, sym (slice_get_read rs (length rs) (length xs) a (λ _. length rs) inside (ap (λ p. p.1) item)))

    -- at the end there were as many turns as there are records
    pub record_end : (r : Option (ℕ × R)) (u : Enumerate (Records R)) → r ≡ None → enumerate_steps (YieldsFirst rest) t r u → length xs ≡ length rs
    record_end r u is steps = (YieldsList-end over_records xs t ran r u is steps).1 ∙ length-enumerate_from 0 rs
