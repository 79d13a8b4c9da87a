-- The text of one signal, and of the first of many. Assumes nothing.
use Rattle.std.proofs.Common.{◌≡◌, ℕ, zero, suc, ◌+◌, ◌<◌, ◌≤◌, Bool, true, ◌&&◌, List, [], ◌++◌, length, get_or, take, drop, None, Some, Option, sym, refl, ap, ◌∙◌, subst, ⊎_elim, add-one, arith}
use mathlib.Core.Logic.{∥∥₁_elim}
use native.Mathlib.Bridge.{le_prop}
use Rattle.std.specs.List.{range_with_len, flat_map, slice_get}
use Rattle.std.specs.Str.{IsAscii, IsUtf8}
use Rattle.std.proofs.lemmas.List.FromFn.{get_or-map-range_with_len}
use Rattle.std.proofs.lemmas.List.{append_assoc, flat_map_more, get_or_past, length-take, take_more}
use Rattle.std.proofs.lemmas.Bool.{cases_lt, cond-true}
use Rattle.std.proofs.lemmas.Str.{IsUtf8-from_ascii}
use Rattle.std.proofs.lemmas.Option.{slice_get_within}
use Rattle.chart.specs.declared.signal.Signal.{Signal}
use Rattle.chart.specs.Decoded.{Decoded, decode, name_at, name_field, name_length}
use Rattle.chart.specs.Layout.{Layout}
use Rattle.chart.specs.Places.{signal_count, signal_place}
use Rattle.chart.proofs.Decoding.{name_is, name_none}
use Rattle.reaction.proofs.Chosen.{counting_more}
use Rattle.status.specs.declared.status.Status.{Status}
use Rattle.reaction.specs.Value.{present, value_of, values}
use Rattle.trace.specs.Line.{is_output, is_output_signal, output, output_text, signal_text, space_held, state_text}

-- a name has at most eight bytes
pub name_short : (bs : List ℕ) (i : ℕ) {name : List ℕ} → name ≡ get_or (decode bs).names i [] → length name ≤ 8
name_short bs i e = ⊎_elim
    (λ (l : i < signal_count bs).
    let field = name_field bs i in
    omega (arith, ap length (e ∙ name_is bs i l), length-take (name_length field) field, length-take 8 (drop (signal_place i + 2) bs)))
    (λ (l : signal_count bs ≤ i). omega (arith, ap length (e ∙ name_none bs i l)))
    (cases_lt i (signal_count bs))

-- each of its bytes is a letter or a digit
name_ascii : (bs : List ℕ) → ∥ Layout bs ∥₁ → (i : ℕ) → IsAscii (get_or (decode bs).names i [])
name_ascii bs t i k = ∥∥₁_elim t le_prop (λ h.
    ⊎_elim
    (λ (l : i < signal_count bs).
    let is = ap (λ name. get_or name k 0) (name_is bs i l) in
    ⊎_elim
    (λ (m : k < length (name_at bs i)). omega (arith, is, (h.signals i l).letters k m))
    (λ (m : length (name_at bs i) ≤ k). omega (arith, is, get_or_past (name_at bs i) k 0 m))
    (cases_lt k (length (name_at bs i))))
    (λ (l : signal_count bs ≤ i). omega (arith, ap (λ name. get_or name k 0) (name_none bs i l), get_or_past {X = ℕ} [] k 0 (omega arith)))
    (cases_lt i (signal_count bs)))

-- so it is text
pub name_text : (bs : List ℕ) → ∥ Layout bs ∥₁ → (i : ℕ) {name : List ℕ} → name ≡ get_or (decode bs).names i [] → IsUtf8 name
name_text bs t i {name} e = IsUtf8-from_ascii name (subst IsAscii (sym e) (name_ascii bs t i))

-- a present output
pub shown_text : (c : Decoded) (fired : ℕ → Bool) (statuses : List Status) (s : ℕ) (g : Signal) → slice_get c.signals s ≡ Some g → is_output g.kind ≡ true → present statuses s ≡ true
    → output_text (get_or c.names s []) (value_of c fired statuses s) ≡ signal_text c statuses (values c fired statuses) s
shown_text c fired statuses s g e o t =
    let within = slice_get_within c.signals s g e in
    ap (output_text (get_or c.names s [])) (sym (get_or-map-range_with_len (value_of c fired statuses) 0 (length c.signals) s s None within (omega arith)))
    ∙ sym (cond-true (output c s && present statuses s) _ _ (λ i. (ap is_output_signal e ∙ o) i && t i))

-- the text of one number more
pub joined_number : (f : ℕ → List ℕ) (n : ℕ) → flat_map f (range_with_len 0 n) ++ f n ≡ flat_map f (range_with_len 0 (n + 1))
joined_number f n = flat_map_more f [] (range_with_len 0 n) n ∙ ap (flat_map f) (sym (counting_more n))

-- and written after other text
pub number_written : (start : List ℕ) (f : ℕ → List ℕ) (n : ℕ) {before after : List ℕ} → before ≡ start ++ flat_map f (range_with_len 0 n) → after ≡ before ++ f n
    → after ≡ start ++ flat_map f (range_with_len 0 (n + 1))
number_written start f n e h =
    h ∙ ap (λ text. text ++ f n) e ∙ append_assoc start (flat_map f (range_with_len 0 n)) (f n) ∙ ap (λ text. start ++ text) (joined_number f n)

-- the states of the first automata, by number
pub states_shown : (states : List (Option ℕ)) (n : ℕ) → n ≤ length states → flat_map space_held (take n states) ≡ flat_map (state_text states) (range_with_len 0 n)
states_shown states zero l = refl
states_shown states (suc n) l =
    let P : ℕ → Type 0 = λ m. flat_map space_held (take m states) ≡ flat_map (state_text states) (range_with_len 0 m) in
    let one_more = ap (flat_map space_held) (take_more states n None (omega arith)) ∙ sym (flat_map_more space_held [] (take n states) (get_or states n None)) in
    subst P (add-one n) (one_more ∙ ap (λ text. text ++ state_text states n) (states_shown states n (omega arith)) ∙ joined_number (state_text states) n)
