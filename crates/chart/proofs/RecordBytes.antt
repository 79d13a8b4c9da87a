-- The records of a file: their bytes, and what they stand for. Assumes nothing.
use Rattle.std.proofs.Common.{◌≡◌, ℕ, zero, suc, ◌+◌, ◌*◌, ◌/◌, ◌<◌, ◌≤◌, List, ◌∷◌, map, length, take, drop, sym, refl, ap, ◌∙◌, mul-add, mul_comm, mul-zero, arith}
use Rattle.std.specs.Int.{from_be_bytes, w32, w64}
use Rattle.std.specs.Simd.{first_chunks}
use Rattle.std.specs.List.{range_with_len}
use Rattle.std.proofs.lemmas.Nat.{le-div}
use Rattle.std.proofs.lemmas.List.FromFn.{take-map-range_with_len}
use Rattle.std.proofs.lemmas.List.{drop-drop, get_or-drop, get_or-take, length-drop}
use Rattle.chart.specs.Codes.{combining_of, kind_of}
use Rattle.chart.specs.Decoded.{automaton_at, automaton_of, owner_of, signal_at, signal_of, transition_of}
use Rattle.chart.specs.Places.{automaton_place, byte, number4, number8, records_from, signal_place}

-- the bytes of a record are bytes of the file
pub in_record : (bs : List ℕ) (p n k q : ℕ) → k < n → q ≡ p + k → byte (take n (drop p bs)) k ≡ byte bs q
in_record bs p n k q l e = get_or-take n (drop p bs) k 0 l ∙ get_or-drop p bs k 0 ∙ ap (byte bs) (sym e)

-- and so are its numbers
pub number8_in : (bs : List ℕ) (p n k q : ℕ) → k + 8 ≤ n → q ≡ p + k → number8 (take n (drop p bs)) k ≡ number8 bs q
number8_in bs p n k q l e =
    let b : (j : ℕ) → j < 8 → byte (take n (drop p bs)) (k + j) ≡ byte bs (q + j) = λ j m. in_record bs p n (k + j) (q + j) (omega arith) (omega arith) in
    let b0 : byte (take n (drop p bs)) k ≡ byte bs q = in_record bs p n k q (omega arith) e in
    rw (b0, b 1 (omega arith), b 2 (omega arith), b 3 (omega arith), b 4 (omega arith), b 5 (omega arith), b 6 (omega arith), b 7 (omega arith)) refl

pub number4_in : (bs : List ℕ) (p n k q : ℕ) → k + 4 ≤ n → q ≡ p + k → number4 (take n (drop p bs)) k ≡ number4 bs q
number4_in bs p n k q l e =
    let b : (j : ℕ) → j < 4 → byte (take n (drop p bs)) (k + j) ≡ byte bs (q + j) = λ j m. in_record bs p n (k + j) (q + j) (omega arith) (omega arith) in
    let b0 : byte (take n (drop p bs)) k ≡ byte bs q = in_record bs p n k q (omega arith) e in
    rw (b0, b 1 (omega arith), b 2 (omega arith), b 3 (omega arith)) refl

-- the eight bytes from a place on, as a number
pub be8 : (bs : List ℕ) (p : ℕ) → from_be_bytes w64 (take 8 (drop p bs)) ≡ number8 bs p
be8 bs p = number8_in bs p 8 0 p (omega arith) (omega arith)

pub be4 : (bs : List ℕ) (p : ℕ) → from_be_bytes w32 (take 4 (drop p bs)) ≡ number4 bs p
be4 bs p = number4_in bs p 4 0 p (omega arith) (omega arith)

-- a record stands for what the layout reads at its place
pub signal_is : (bs : List ℕ) (i : ℕ) → signal_of (take 10 (drop (signal_place i) bs)) ≡ signal_at bs i
signal_is bs i =
    let p = signal_place i in
    let b0 = in_record bs p 10 0 p (omega arith) (omega arith) in
    let b1 = in_record bs p 10 1 (p + 1) (omega arith) refl in
    λ j. record { kind = kind_of (b0 j); combining = combining_of (b1 j) }

pub automaton_is : (bs : List ℕ) (k : ℕ) → automaton_of (take 4 (drop (automaton_place bs k) bs)) ≡ automaton_at bs k
automaton_is bs k =
    let p = automaton_place bs k in
    let b0 = in_record bs p 4 0 p (omega arith) (omega arith) in
    let b : (j : ℕ) → j < 4 → byte (take 4 (drop p bs)) j ≡ byte bs (p + j) = λ j m. in_record bs p 4 j (p + j) m refl in
    λ j. record { owner = owner_of (b0 j) (b 1 (omega arith) j); states = b 2 (omega arith) j; first = b 3 (omega arith) j }

-- the transition at any place
pub transition_from : (bs : List ℕ) (p : ℕ) → transition_of (take 31 (drop p bs)) ≡ record {
  automaton = byte bs p;
  source = byte bs (p + 1);
  target = byte bs (p + 2);
  needed = number8 bs (p + 3);
  forbidden = number8 bs (p + 11);
  emitted = number8 bs (p + 19);
  amount = number4 bs (p + 27);
}
transition_from bs p =
    let b0 = in_record bs p 31 0 p (omega arith) (omega arith) in
    let b1 = in_record bs p 31 1 (p + 1) (omega arith) refl in
    let b2 = in_record bs p 31 2 (p + 2) (omega arith) refl in
    let n3 = number8_in bs p 31 3 (p + 3) (omega arith) refl in
    let n11 = number8_in bs p 31 11 (p + 11) (omega arith) refl in
    let n19 = number8_in bs p 31 19 (p + 19) (omega arith) refl in
    let n27 = number4_in bs p 31 27 (p + 27) (omega arith) refl in
    λ j. record { automaton = b0 j; source = b1 j; target = b2 j; needed = n3 j; forbidden = n11 j; emitted = n19 j; amount = n27 j }

-- the chunks of a slice, by their places
chunks_made : (bs : List ℕ) (size p n a : ℕ) → first_chunks size n (drop (p + size * a) bs) ≡ map (λ k. take size (drop (p + size * k) bs)) (range_with_len a n)
chunks_made bs size p zero a = refl
chunks_made bs size p (suc n) a =
    let next : p + size * a + size ≡ p + size * (a + 1) = omega (arith, mul-add size a 1) in
    ap (λ xs. take size (drop (p + size * a) bs) ∷ first_chunks size n xs) (drop-drop size (p + size * a) bs ∙ ap (λ q. drop q bs) next)
    ∙ ap (λ xs. take size (drop (p + size * a) bs) ∷ xs) (chunks_made bs size p n (a + 1))

-- the first chunks are the records
pub records_made : (bs : List ℕ) (size p n : ℕ) → 0 < size → p + size * n ≤ length bs → take n (first_chunks size (length (drop p bs) / size) (drop p bs)) ≡ records_from bs size p n
records_made bs size p n some fits =
    let m = length (drop p bs) / size in
    let start : p ≡ p + size * 0 = omega (arith, mul-zero size) in
    let enough : n ≤ m = le-div n (length (drop p bs)) size some (omega (arith, length-drop p bs, mul_comm n size)) in
    ap (λ q. take n (first_chunks size m (drop q bs))) start
    ∙ ap (take n) (chunks_made bs size p m 0)
    ∙ take-map-range_with_len (λ k. take size (drop (p + size * k) bs)) 0 m n enough
