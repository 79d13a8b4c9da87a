-- A line depends on the places of the signals and of the automata alone. Assumes nothing.
use Rattle.std.proofs.Common.{◌≡◌, ℕ, ◌<◌, cond, ◌&&◌, List, [], ◌∷◌, ◌++◌, length, get_or, take, None, codes, decimal, Option, sym, refl, ap, ◌∙◌, arith}
use Rattle.std.specs.List.{range_with_len, flat_map, AllByRecursion}
use Rattle.std.proofs.lemmas.List.FromFn.{get_or-range_with_len, length-range_with_len}
use Rattle.std.proofs.ByRecursion.{All-from_get_or}
use Rattle.std.proofs.lemmas.List.{get_or-take}
use Rattle.chart.specs.Decoded.{Decoded}
use Rattle.status.specs.Status.{unknown}
use Rattle.status.specs.declared.status.Status.{Status}
use Rattle.reaction.specs.Next.{padded}
use Rattle.reaction.proofs.Settling.{padded_read}
use Rattle.trace.specs.Line.{line_of, output, output_text, signal_text, space_held, state_text}

-- texts that agree are joined to the same
joined_same : {X A : Type 0} (f g : X → List A) (xs : List X) → AllByRecursion (λ x. f x ≡ g x) xs → flat_map f xs ≡ flat_map g xs
joined_same f g [] h = refl
joined_same f g (x ∷ xs) h = λ i. h.0 i ++ joined_same f g xs h.1 i

-- texts of the numbers below n that agree
joined_below : {A : Type 0} (f g : ℕ → List A) (n : ℕ) → ((k : ℕ) → k < n → f k ≡ g k) → flat_map f (range_with_len 0 n) ≡ flat_map g (range_with_len 0 n)
joined_below f g n h =
    let long = length-range_with_len 0 n in
    joined_same f g (range_with_len 0 n) (All-from_get_or (λ k. f k ≡ g k) (range_with_len 0 n) 0 (λ i l.
    let lower : i < n = omega arith in
    let here : get_or (range_with_len 0 n) i 0 ≡ i = omega (arith, get_or-range_with_len 0 n i 0 lower) in
    ap f here ∙ h i lower ∙ sym (ap g here)))

-- the line of the first places of an area, and of the states without the places beyond the automata
pub line_front : (c : Decoded) (count : ℕ) (area : List Status) (values states : List (Option ℕ))
    → line_of c count area values (padded states) ≡ line_of c count (take (length c.signals) area) values states
unfolding line_of
line_front c count area values states =
    let n = length c.signals in
    let signals = joined_below (signal_text c area values) (signal_text c (take n area) values) n (λ s l.
    ap (λ (a : Status). cond (output c s && a.present) (output_text (get_or c.names s []) (get_or values s None)) []) (sym (get_or-take n area s unknown l))) in
    let held = joined_below (state_text (padded states)) (state_text states) (length c.automata) (λ k l.
    ap space_held (padded_read states k)) in
    λ i. decimal count ++ codes ":" ++ signals i ++ codes " /" ++ held i ++ codes "\n"
