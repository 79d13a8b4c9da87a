-- The configuration, owners first. Assumes nothing.
use Rattle.std.proofs.Common.{◌≡◌, ℕ, zero, suc, ◌+◌, ◌-◌, ◌<◌, ◌≤◌, List, [], ◌∷◌, ◌++◌, map, length, get_or, drop, replicate, Some, None, Option, sym, refl, ap, ◌∙◌, subst, ⊎_elim, arith}
use Rattle.std.specs.Array.{IsFromFnResult, IsFromFnResultFrom}
use Rattle.std.specs.List.{range_with_len, slice_get}
use denote.Param.Members.{Mut, Called}
use Rattle.std.proofs.lemmas.List.{length-append, length-replicate, get_or_append_left, get_or-append_right, get_or_past, length-map, length_push}
use Rattle.std.proofs.lemmas.List.FromFn.{fill_by_all}
use Rattle.std.proofs.Math.ListN.{drop_of_length-le, get_or-map}
use Rattle.std.proofs.lemmas.Option.{get_or_from_slice_get, slice_get_within}
use Rattle.std.proofs.lemmas.Bool.{cases_lt}
use Rattle.chart.specs.Decoded.{Decoded}
use Rattle.chart.specs.declared.automaton.Automaton.{Automaton}
use Rattle.chart.proofs.Decoding.{left_from}
use Rattle.reaction.specs.Next.{Gives, automaton, no_automaton, padded, settled, started, state_of, under}
use Rattle.reaction.specs.declared.next.Outcome.{Outcome}
use Rattle.reaction.specs.declared.next.Outcome.TheVariants.{Gone}

-- an automaton that is there has a number below their count
pub automaton_inside : (c : Decoded) (k : ℕ) {a : Automaton} → Some a ≡ slice_get c.automata k → k < length c.automata
automaton_inside c k {a} here = slice_get_within c.automata k a (sym here)

-- what becomes of the first automata, where outs has it of those before the next
module _ (c : Decoded) (itself : ℕ → Outcome) (outs : List Outcome) (before : settled itself (drop (length outs) c.automata) outs ≡ settled itself c.automata []) where
  -- one automaton more: a is the next, y what it does by itself, x what becomes of it
  pub settled_more : (known : ℕ → Automaton → Outcome → Type 0) → Gives c known itself → (n : ℕ) (a : Automaton) (x y : Outcome) (more : List Outcome) → n ≡ length outs
      → Some a ≡ slice_get c.automata (length outs) → known n a y → x ≡ under a.owner outs y (started a) → more ≡ outs ++ (x ∷ []) → settled itself (drop (length more) c.automata) more ≡ settled itself c.automata []
  settled_more known gives n a x y more e here does is push =
      let k = length outs in
      let inside = automaton_inside c k here in
      let same : a ≡ automaton c k = sym (get_or_from_slice_get c.automata k a no_automaton (sym here)) in
      let own : y ≡ itself k = gives k y inside (subst (λ b. known k b y) same (subst (λ m. known m a y) e does)) in
      let becomes : x ≡ under a.owner outs (itself k) (started a) = is ∙ ap (λ o. under a.owner outs o (started a)) own in
      ap (λ m. settled itself (drop (length m) c.automata) m) push
      ∙ ap (λ m. settled itself (drop m c.automata) (outs ++ (x ∷ []))) (length_push outs x)
      ∙ ap (λ o. settled itself (drop (k + 1) c.automata) (outs ++ (o ∷ []))) becomes
      ∙ sym (ap (λ later. settled itself later outs) (left_from c.automata k a (sym here)))
      ∙ before

  -- all automata
  pub settled_all : length outs ≡ length c.automata → outs ≡ settled itself c.automata []
  settled_all long = sym (ap (λ later. settled itself later outs) (drop_of_length-le c.automata (omega (arith, long)))) ∙ before

-- a list of defaults reads as the default everywhere
pub getD_defaults : {A : Type 0} (n k : ℕ) (d : A) → get_or (replicate n d) k d ≡ d
getD_defaults zero k d = refl
getD_defaults (suc n) zero d = refl
getD_defaults (suc n) (suc k) d = getD_defaults n k d

-- the places beyond the last automaton hold none
pub padded_read : (states : List (Option ℕ)) (k : ℕ) → get_or (padded states) k None ≡ get_or states k None
padded_read states k = ⊎_elim
    (λ (l : k < length states). get_or_append_left states (replicate (32 - length states) None) None k l)
    (λ (l : length states ≤ k). get_or-append_right states (replicate (32 - length states) None) (length states) k None refl l ∙ getD_defaults (32 - length states) (k - length states) None
    ∙ sym (get_or_past states k None l))
    (cases_lt k (length states))

-- an array that is made of a function of the index
from_calls : {F B : Type 0} (g : Mut F (ℕ × Unit {0}) B) (f : F) (h : ℕ → B) → ((k : ℕ) (y : B) (q : F) → Called g f (k, tt) y q → (q ≡ f) × (y ≡ h k)) → (d : B) (ys : List B) (n i k : ℕ)
    → IsFromFnResultFrom g f ys i n → i ≤ k → k < i + n → get_or ys k d ≡ h k
from_calls g f h each d ys zero i k made l u = absurd (omega arith)
from_calls g f h each d ys (suc n) i k (q, y, here, call, rest) l u =
    let known = each i y q call in
    ⊎_elim
    (λ (m : i < k). from_calls g f h each d ys n (i + 1) k (subst (λ p. IsFromFnResultFrom g p ys (i + 1) n) known.0 rest) (omega arith) (omega arith))
    (λ (m : k ≤ i). let same : k ≡ i = omega arith in ap (λ j. get_or ys j d) same ∙ here.1 d ∙ known.1 ∙ ap h (sym same))
    (cases_lt i k)

pub array_of : {F B : Type 0} (g : Mut F (ℕ × Unit {0}) B) (f : F) (h : ℕ → B) (n : ℕ) (ys : List B) → IsFromFnResult g f ys n → ((k : ℕ) (y : B) (q : F) → Called g f (k, tt) y q → (q ≡ f) × (y ≡ h k)) → (d : B)
    → ys ≡ map h (range_with_len 0 n)
array_of g f h n ys made each d = fill_by_all h ys n d made.long (λ k l. from_calls g f h each d ys n 0 k made.each (omega arith) (omega arith))

-- the state that an automaton holds is that of its outcome
pub states_read : (outs : List Outcome) (k : ℕ) → get_or (padded (map state_of outs)) k None ≡ state_of (get_or outs k Gone)
states_read outs k = padded_read (map state_of outs) k ∙ get_or-map state_of outs k Gone

-- the 32 places of a configuration, one after the other
pub padded_places : (outs : List Outcome) → length outs ≤ 32 → padded (map state_of outs) ≡ map (λ k. state_of (get_or outs k Gone)) (range_with_len 0 32)
padded_places outs few =
    let states : List (Option ℕ) = map state_of outs in
    let none : Option ℕ = None in
    let others : List (Option ℕ) = replicate (32 - length states) none in
    let long : length (padded states) ≡ 32 = length-append states others ∙ omega (arith, length-map outs state_of, length-replicate (32 - length states) none) in
    fill_by_all (λ k. state_of (get_or outs k Gone)) (padded states) 32 None long (λ k _. states_read outs k)
