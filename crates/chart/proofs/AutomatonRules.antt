-- The tests of the automata pass exactly if the rules of the layout hold of them. Assumes nothing.
use Rattle.std.proofs.Common.{◌≡◌, ℕ, zero, suc, ◌+◌, ◌*◌, ◌<◌, ◌≤◌, Bool, true, false, cond, ◌&&◌, eqb, ltb, List, map, take, drop, Some, None, Decides, sum, sum_by, Option, sym, refl, ap, ◌∙◌, subst, ⊎_elim, add-one, arith}
use Rattle.std.specs.List.{range_with_len}
use Rattle.std.proofs.lemmas.List.Sums.{sum-map}
use Rattle.std.proofs.lemmas.List.FromFn.{sum_by-map-range_with_len_more}
use Rattle.std.proofs.lemmas.Bool.{and_from, and_parts, cases_eq, eq-eqb, eqb-true, le-leb, leb-true, lt-ltb, ltb-true}
use Rattle.chart.specs.Check.{automaton_good, owner_good, states_upto}
use Rattle.chart.specs.Decoded.{automaton_at}
use Rattle.chart.specs.Layout.{AutomatonRule}
use Rattle.chart.specs.Places.{automata_at, automaton_place, byte, records_from}
use Rattle.chart.specs.declared.automaton.Owner.{Owner}
use Rattle.chart.proofs.RecordBytes.{in_record}

-- ---- all states together

-- the states of the first n automata, as the layout adds them
abbrev total : List ℕ → ℕ → ℕ
total bs n = sum_by (λ a. a.states) (map (automaton_at bs) (range_with_len 0 n))

-- the walk adds up the same, whatever list has those numbers
upto_by : {X : Type 0} (g : X → ℕ) (f : ℕ → X) (bs : List ℕ) (p n : ℕ) → ((k : ℕ) → byte bs (p + 4 * k + 2) ≡ g (f k)) → states_upto bs p n ≡ sum_by g (map f (range_with_len 0 n))
unfolding states_upto
upto_by g f bs p zero same = refl
upto_by g f bs p (suc n) same =
    (λ i. upto_by g f bs p n same i + same n i)
    ∙ sym (sum_by-map-range_with_len_more g f 0 n n (omega arith))
    ∙ ap (λ m. sum_by g (map f (range_with_len 0 m))) (add-one n)

pub upto_sum : (bs : List ℕ) (p n : ℕ) → states_upto bs p n ≡ sum (map (λ a. byte a 2) (records_from bs 4 p n))
upto_sum bs p n =
    upto_by (λ a. byte a 2) (λ k. take 4 (drop (p + 4 * k) bs)) bs p n (λ k. sym (in_record bs (p + 4 * k) 4 2 (p + 4 * k + 2) (omega arith) refl))
    ∙ sym (sum-map (λ a. byte a 2) (records_from bs 4 p n))

upto_total : (bs : List ℕ) (n : ℕ) → states_upto bs (automata_at bs + 1) n ≡ total bs n
upto_total bs n = upto_by (λ a. a.states) (automaton_at bs) bs (automata_at bs + 1) n (λ k. refl)

-- more automata have no fewer states
upto_grows : (bs : List ℕ) (p k n : ℕ) → k ≤ n → states_upto bs p k ≤ states_upto bs p n
unfolding states_upto
upto_grows bs p k zero l = let e : k ≡ 0 = omega arith in omega (arith, ap (states_upto bs p) e)
upto_grows bs p k (suc n) l = ⊎_elim
    (λ (e : k ≡ suc n). omega (arith, ap (states_upto bs p) e))
    (λ (d : k ≡ suc n → ⊥). omega (arith, upto_grows bs p k n (omega arith)))
    (cases_eq k (suc n))

-- the bound at the last automaton is one for all
last_bounds : (bs : List ℕ) (n : ℕ) → ((k : ℕ) → k < n → states_upto bs (automata_at bs + 1) (k + 1) ≤ 64) → total bs n ≤ 64
last_bounds bs zero few = omega arith
last_bounds bs (suc n) few =
    let e = ap (states_upto bs (automata_at bs + 1)) (add-one n) ∙ upto_total bs (suc n) in
    omega (arith, few n (omega arith))

-- ---- the owner

-- the rules of an automaton's owner
abbrev OwnerRules : Option Owner → ℕ → ℕ → (ℕ → ℕ) → Type 0
OwnerRules owner state k states =
    (owner ≡ None → state ≡ 0)
    × ((o : Owner) → owner ≡ Some o → o.automaton < k)
    × ((o : Owner) → owner ≡ Some o → o.state < states o.automaton)

-- the test of the owner, at the top and below it
owner_decides : (o : Owner) (k : ℕ) (states : ℕ → ℕ) (top : Bool) →
    Decides (cond top (eqb o.state 0) (ltb o.automaton k && ltb o.state (states o.automaton))) (OwnerRules (cond top None (Some o)) o.state k states)
owner_decides o k states true = (
  λ e. (
    λ _. eqb-true o.state 0 e,
    λ p s. let z : ◌≡◌ {A = ℕ} 0 1 = cc in absurd (omega arith),
    λ p s. let z : ◌≡◌ {A = ℕ} 0 1 = cc in absurd (omega arith),
  ),
  λ r. eq-eqb o.state 0 (r.0 refl),
)
owner_decides o k states false = (
  λ e. let h = and_parts (ltb o.automaton k) (ltb o.state (states o.automaton)) e in (
    λ n. let z : ◌≡◌ {A = ℕ} 0 1 = cc in absurd (omega arith),
    λ p s. let q : o ≡ p = cc in subst (λ x. x.automaton < k) q (ltb-true o.automaton k h.0),
    λ p s. let q : o ≡ p = cc in subst (λ x. x.state < states x.automaton) q (ltb-true o.state (states o.automaton) h.1),
  ),
  λ r. and_from _ _ (lt-ltb o.automaton k (r.1 o refl)) (lt-ltb o.state (states o.automaton) (r.2 o refl)),
)

-- the test of an automaton's owner
owner_at_decides : (bs : List ℕ) (k : ℕ) → Decides (owner_good bs (automata_at bs + 1) k) (OwnerRules (automaton_at bs k).owner (byte bs (automaton_place bs k + 1)) k (λ j. (automaton_at bs j).states))
owner_at_decides bs k =
    owner_decides (record { automaton = byte bs (automaton_place bs k); state = byte bs (automaton_place bs k + 1) }) k (λ j. (automaton_at bs j).states)
    (eqb (byte bs (automaton_place bs k)) 255)

-- ---- the automata

-- automata that keep the rules pass
pub automata_good : (bs : List ℕ) (n : ℕ) → ((k : ℕ) → k < n → AutomatonRule bs k) → sum_by (λ a. a.states) (map (automaton_at bs) (range_with_len 0 n)) ≤ 64 → (k : ℕ) → k < n → automaton_good bs (automata_at bs + 1) k ≡ true
automata_good bs n rules few k l =
    let r = rules k l in
    let upto : states_upto bs (automata_at bs + 1) (k + 1) ≤ 64 = omega (arith, upto_grows bs (automata_at bs + 1) (k + 1) n (omega arith), upto_total bs n) in
    and_from _ _ ((owner_at_decides bs k).1 (r.top, r.smaller, r.owned))
    (and_from _ _ (and_from _ _ (le-leb _ _ r.some) (le-leb _ _ r.few))
    (and_from _ _ (lt-ltb _ _ r.first) (le-leb _ _ upto)))

-- an automaton that passes keeps the rules, and the states up to it are few
automaton_keeps : (bs : List ℕ) (k : ℕ) → automaton_good bs (automata_at bs + 1) k ≡ true → AutomatonRule bs k × (states_upto bs (automata_at bs + 1) (k + 1) ≤ 64)
automaton_keeps bs k e =
    let a = and_parts _ _ e in
    let o = (owner_at_decides bs k).0 a.0 in
    let b = and_parts _ _ a.1 in
    let s = and_parts _ _ b.0 in
    let f = and_parts _ _ b.1 in (
      record {
        top = o.0;
        smaller = o.1;
        owned = o.2;
        some = leb-true _ _ s.0;
        few = leb-true _ _ s.1;
        first = ltb-true _ _ f.0;
      },
      leb-true _ _ f.1,
    )

-- automata that pass keep the rules
pub automata_keep : (bs : List ℕ) (n : ℕ) → ((k : ℕ) → k < n → automaton_good bs (automata_at bs + 1) k ≡ true) → ((k : ℕ) → k < n → AutomatonRule bs k) × (sum_by (λ a. a.states) (map (automaton_at bs) (range_with_len 0 n)) ≤ 64)
automata_keep bs n good = (
  λ k l. (automaton_keeps bs k (good k l)).0,
  last_bounds bs n (λ k l. (automaton_keeps bs k (good k l)).1),
)
