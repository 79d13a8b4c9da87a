-- The test of a signal against its rules: the bytes of a name, the rules of one signal, and those of all signals. Assumes nothing.
use Rattle.std.proofs.Common.{◌≡◌, ℕ, zero, suc, ◌+◌, ◌-◌, ◌<◌, ◌≤◌, Bool, true, false, cond, not, ◌||◌, eqb, leb, List, length, get_or, take, drop, w64, Decides, sym, refl, ap, ◌∙◌, subst, ⊎_elim, arith}
use Rattle.std.specs.Int.{from_be_bytes, to_be_bytes}
use Rattle.std.proofs.lemmas.Nat.{be_bytes_8}
use Rattle.std.proofs.lemmas.List.{at_drop_more, ext_get_or, get_or-drop, get_or-take, get_or_past, length-drop, length-take, length-take-le}
use Rattle.std.proofs.lemmas.List.Sums.{prefix_len-le-length}
use Rattle.std.proofs.lemmas.Bool.{and_from, and_parts, cases_Bool, cases_eq, cases_lt, eq-eqb, eqb-true}
use Rattle.std.proofs.lemmas.Bool.Decides.{Decides-and, Decides-eqb, Decides-like, Decides-not, nat_tests, same_from_decides}
use Rattle.chart.specs.Check.{is_letter, same_eight, signal_good, tidy, unused_name, zeros}
use Rattle.chart.specs.Codes.{combining_byte, combining_of, kind_byte, kind_of}
use Rattle.chart.specs.Decoded.{name_at, name_field, name_length}
use Rattle.chart.specs.Layout.{Letter, SignalRule}
use Rattle.chart.specs.Places.{byte, signal_place}
use Rattle.chart.specs.declared.signal.Combining.TheVariants.{Plain}
use Rattle.chart.specs.declared.signal.Kind.TheVariants.{Input}
use Rattle.chart.proofs.Below.{all_below_decides}
use Rattle.chart.proofs.RecordBytes.{in_record}

-- ---- the bytes of a name

-- the test of a letter decides that it is one
letter_decides : (b : ℕ) → Decides (is_letter b) (Letter b)
letter_decides b = (λ e. grind (arith, nat_tests), λ h. grind (arith, nat_tests))

-- where the test of n zero bytes from place p on holds, each of them is zero
zeros_each : (bs : List ℕ) (n p : ℕ) → zeros bs n p ≡ true → (q : ℕ) → p ≤ q → q < p + n → byte bs q ≡ 0
unfolding zeros
zeros_each bs zero p z q l h = absurd (omega arith)
zeros_each bs (suc n) p z q l h =
    let parts = and_parts (eqb (byte bs p) 0) (zeros bs n (p + 1)) z in
    ⊎_elim
    (λ (e : q ≡ p). ap (byte bs) e ∙ eqb-true (byte bs p) 0 parts.0)
    (λ (e : q ≡ p → ⊥). zeros_each bs n (p + 1) parts.1 q (omega arith) (omega arith))
    (cases_eq q p)

-- n bytes from place p on that are all zero pass the test
zeros_from : (bs : List ℕ) (n p : ℕ) → ((q : ℕ) → p ≤ q → q < p + n → byte bs q ≡ 0) → zeros bs n p ≡ true
unfolding zeros
zeros_from bs zero p f = refl
zeros_from bs (suc n) p f = and_from (eqb (byte bs p) 0) (zeros bs n (p + 1))
    (eq-eqb (byte bs p) 0 (f p (omega arith) (omega arith)))
    (zeros_from bs n (p + 1) (λ q l h. f q (omega arith) (omega arith)))

-- n bytes from place p on: m letters and digits, and then zero bytes alone
record Named (bs : List ℕ) (n p m : ℕ) : Type 0 where
  letters : (q : ℕ) → p ≤ q → q < p + m → Letter (byte bs q)
  zeros : (q : ℕ) → p + m ≤ q → q < p + n → byte bs q ≡ 0

-- a letter is not the zero byte
letter_not_zero : (b : ℕ) → Letter b → eqb b 0 ≡ false
letter_not_zero b a = grind (arith, nat_tests)

-- a name of any length passes the test
tidy_from : (bs : List ℕ) (n p m : ℕ) → Named bs n p m → tidy bs n p ≡ true
unfolding tidy
tidy_from bs zero p m r = refl
tidy_from bs (suc n) p zero r =
    let z : eqb (byte bs p) 0 ≡ true = eq-eqb (byte bs p) 0 (r.zeros p (omega arith) (omega arith)) in
    rw z (zeros_from bs n (p + 1) (λ q l h. r.zeros q (omega arith) (omega arith)))
tidy_from bs (suc n) p (suc m) r =
    let a : Letter (byte bs p) = r.letters p (omega arith) (omega arith) in
    let later : Named bs n (p + 1) m = record {
      letters = λ q l h. r.letters q (omega arith) (omega arith);
      zeros = λ q l h. r.zeros q (omega arith) (omega arith);
    } in
    rw (letter_not_zero (byte bs p) a)
    (and_from (is_letter (byte bs p)) (tidy bs n (p + 1)) ((letter_decides (byte bs p)).1 a) (tidy_from bs n (p + 1) m later))

-- how many bytes come before the first zero, by the first byte
length_from : (bs : List ℕ) (n p : ℕ) → p < length bs → name_length (take (suc n) (drop p bs)) ≡ cond (not (eqb (byte bs p) 0)) (1 + name_length (take n (drop (p + 1) bs))) 0
length_from bs n p l = at_drop_more (λ xs. name_length (take (suc n) xs)) bs p 0 l

-- one letter more in front of a name
named_more : (bs : List ℕ) (n p m : ℕ) → Letter (byte bs p) → Named bs n (p + 1) m → Named bs (suc n) p (1 + m)
named_more bs n p m a r = record {
  letters = λ q l h. ⊎_elim
      (λ (e : q ≡ p). subst (λ x. Letter (byte bs x)) (sym e) a)
      (λ (e : q ≡ p → ⊥). r.letters q (omega arith) (omega arith))
      (cases_eq q p);
  zeros = λ q l h. r.zeros q (omega arith) (omega arith);
}

-- zero bytes alone are an empty name
named_none : (bs : List ℕ) (n p : ℕ) → zeros bs n p ≡ true → Named bs n p 0
named_none bs n p z = record {
  letters = λ q l h. absurd (omega arith);
  zeros = λ q l h. zeros_each bs n p z q (omega arith) h;
}

-- what passes the test is a name that ends before the first zero byte
tidy_named : (bs : List ℕ) (n p : ℕ) → p + n ≤ length bs → tidy bs n p ≡ true → Named bs n p (name_length (take n (drop p bs)))
unfolding tidy zeros
tidy_named bs zero p l t = named_none bs 0 p refl
tidy_named bs (suc n) p l t =
    let e = length_from bs n p (omega arith) in
    ⊎_elim
    (λ (z : eqb (byte bs p) 0 ≡ true).
    rw (e, z) (named_none bs (suc n) p (and_from (eqb (byte bs p) 0) (zeros bs n (p + 1)) z (rw z at t))))
    (λ (z : eqb (byte bs p) 0 ≡ false).
    let parts = and_parts (is_letter (byte bs p)) (tidy bs n (p + 1)) (rw z at t) in
    rw (e, z) (named_more bs n p _ ((letter_decides (byte bs p)).0 parts.0) (tidy_named bs n (p + 1) (omega arith) parts.1)))
    (cases_Bool (eqb (byte bs p) 0))

-- ---- the rules of one signal

-- a byte up to 2 is that of its kind
kind_decides : (b : ℕ) → Decides (leb b 2) (b ≡ kind_byte (kind_of b))
kind_decides b = (λ e. grind (arith, nat_tests), λ e. grind (arith, nat_tests))

-- a byte up to 2 is that of its combining
combining_decides : (b : ℕ) → Decides (leb b 2) (b ≡ combining_byte (combining_of b))
combining_decides b = (λ e. grind (arith, nat_tests), λ e. grind (arith, nat_tests))

-- no combining for an input
input_decides : (a b : ℕ) → Decides (not (eqb a 0) || eqb b 0) (kind_of a ≡ Input → combining_of b ≡ Plain)
input_decides a b = (λ t e. grind (arith, nat_tests), λ f. grind (arith, nat_tests))

module _ (bs : List ℕ) (i : ℕ) (fits : signal_place i + 10 ≤ length bs) where
  -- the name's eight bytes are there
  length_field : length (name_field bs i) ≡ 8
  length_field = simp (length-take, length-drop) (omega arith)

  -- each of them is a byte of the file
  field_at : (k : ℕ) → k < 8 → get_or (name_field bs i) k 0 ≡ byte bs (signal_place i + 2 + k)
  field_at k l = rw (get_or-take, get_or-drop)

  -- the name is as long as the bytes before the first zero are many, at most eight
  length_name : (length (name_at bs i) ≡ name_length (name_field bs i)) × (length (name_at bs i) ≤ 8)
  length_name =
      let short = prefix_len-le-length (λ b. not (eqb b 0)) (name_field bs i) in
      let e = length-take-le (name_length (name_field bs i)) (name_field bs i) short in
      (e, omega (arith, length_field))

  -- each byte of the name is a byte of the file
  name_byte : (k : ℕ) → k < length (name_at bs i) → get_or (name_at bs i) k 0 ≡ byte bs (signal_place i + 2 + k)
  name_byte k l =
      get_or-take (name_length (name_field bs i)) (name_field bs i) k 0 (omega (arith, length_name.0))
      ∙ field_at k (omega (arith, length_name.1))

  -- a name is not empty exactly if its first byte is not zero
  named_decides : Decides (not (eqb (byte bs (signal_place i + 2)) 0)) (1 ≤ length (name_at bs i))
  named_decides =
      let e = length_name.0 in
      let f = length_from bs 7 (signal_place i + 2) (omega arith) in
      (λ t. grind (arith, nat_tests), λ h. grind (arith, nat_tests))

  -- the test of the eight bytes decides that they are the name with zero bytes after it
  tidy_decides : Decides (tidy bs 8 (signal_place i + 2)) (Named bs 8 (signal_place i + 2) (length (name_at bs i)))
  tidy_decides = (
    λ t. rw length_name.0 (tidy_named bs 8 (signal_place i + 2) (omega arith) t),
    tidy_from bs 8 (signal_place i + 2) (length (name_at bs i)),
  )

  -- the rules on the bytes of a name, by their places in the file
  named_from_rule : SignalRule bs i → Named bs 8 (signal_place i + 2) (length (name_at bs i))
  named_from_rule r = record {
    letters = λ q l h.
        let k = q - (signal_place i + 2) in
        let e : signal_place i + 2 + k ≡ q = omega arith in
        subst Letter (name_byte k (omega arith) ∙ ap (byte bs) e) (r.letters k (omega arith));
    zeros = λ q l h.
        let k = q - (signal_place i + 2) in
        let e : q ≡ signal_place i + 2 + k = omega arith in
        ap (byte bs) e ∙ r.zeros k (omega arith) (omega arith);
  }

  -- the test of signal i decides its rules, and that no earlier signal has its name
  signal_decides : Decides (signal_good bs i) (SignalRule bs i × (unused_name bs i ≡ true))
  signal_decides = Decides-like (signal_good bs i)
      (λ h. (
        record {
          kind = h.0;
          combining = h.1.0;
          input = h.1.1.0;
          named = h.1.1.1.0;
          letters = λ k l.
              subst Letter (sym (name_byte k l)) (h.1.1.1.1.0.letters (signal_place i + 2 + k) (omega arith) (omega arith));
          zeros = λ k l m. h.1.1.1.1.0.zeros (signal_place i + 2 + k) (omega arith) (omega arith);
        },
        h.1.1.1.1.1,
      ))
      (λ h. (h.0.kind, (h.0.combining, (h.0.input, (h.0.named, (named_from_rule h.0, h.1))))))
      (Decides-and _ _ (kind_decides (byte bs (signal_place i)))
      (Decides-and _ _ (combining_decides (byte bs (signal_place i + 1)))
      (Decides-and _ _ (input_decides (byte bs (signal_place i)) (byte bs (signal_place i + 1)))
      (Decides-and _ _ named_decides
      (Decides-and _ _ tidy_decides (λ e. e, λ e. e))))))

-- ---- the names of two signals

-- the test of eight bytes decides that each agrees
same_decides : (bs : List ℕ) (p q : ℕ) → Decides (same_eight bs p q) ((k : ℕ) → k < 8 → byte bs (p + k) ≡ byte bs (q + k))
same_decides bs p q = all_below_decides
    (λ k. eqb (byte bs (p + k)) (byte bs (q + k)))
    (λ k. byte bs (p + k) ≡ byte bs (q + k))
    (λ k. Decides-eqb (byte bs (p + k)) (byte bs (q + k)))
    8

-- the eight bytes that have the names of two signals agree
abbrev Alike : List ℕ → ℕ → ℕ → Type 0
Alike bs i j = (k : ℕ) → k < 8 → byte bs (signal_place i + 2 + k) ≡ byte bs (signal_place j + 2 + k)

-- no earlier signal has the eight bytes of signal i
unused_decides : (bs : List ℕ) (i : ℕ) → Decides (unused_name bs i) ((j : ℕ) → j < i → Alike bs j i → ⊥)
unused_decides bs i = all_below_decides
    (λ j. not (same_eight bs (signal_place j + 2) (signal_place i + 2)))
    (λ j. Alike bs j i → ⊥)
    (λ j. Decides-not _ (same_decides bs (signal_place j + 2) (signal_place i + 2)))
    i

-- the same eight bytes are the same list
eight_alike : (bs : List ℕ) (p q : ℕ) → p + 8 ≤ length bs → q + 8 ≤ length bs → ((k : ℕ) → k < 8 → byte bs (p + k) ≡ byte bs (q + k)) → take 8 (drop p bs) ≡ take 8 (drop q bs)
eight_alike bs p q h l a =
    let whole : (r : ℕ) → r + 8 ≤ length bs → length (take 8 (drop r bs)) ≡ 8 = λ r m. simp (length-take, length-drop) (omega arith) in
    ext_get_or 0 (take 8 (drop p bs)) (take 8 (drop q bs)) (whole p h ∙ sym (whole q l))
    (λ k m. let few : k < 8 = omega (arith, whole p h) in in_record bs p 8 k (p + k) few refl ∙ a k few ∙ sym (in_record bs q 8 k (q + k) few refl))

-- the comparison of the eight bytes from two places on
pub same_is : (bs : List ℕ) (p q : ℕ) (r : Bool) → p + 8 ≤ length bs → q + 8 ≤ length bs → Decides r (take 8 (drop p bs) ≡ take 8 (drop q bs)) → r ≡ same_eight bs p q
same_is bs p q r h l d = same_from_decides r (same_eight bs p q)
    (Decides-like r
    (λ e k m. sym (in_record bs p 8 k (p + k) m refl) ∙ ap (λ xs. byte xs k) e ∙ in_record bs q 8 k (q + k) m refl)
    (eight_alike bs p q h l)
    d)
    (same_decides bs p q)

-- two numbers of eight bytes each are the same exactly if the bytes are
pub eight_decide : (bs : List ℕ) (p q : ℕ) → p + 8 ≤ length bs → q + 8 ≤ length bs → ((i : ℕ) → get_or bs i 0 < 256)
    → Decides (eqb (from_be_bytes w64 (take 8 (drop p bs))) (from_be_bytes w64 (take 8 (drop q bs)))) (take 8 (drop p bs) ≡ take 8 (drop q bs))
eight_decide bs p q h l small =
    let whole : (r : ℕ) → r + 8 ≤ length bs → length (take 8 (drop r bs)) ≡ 8 = λ r k. length-take-le 8 (drop r bs) (omega (arith, length-drop r bs)) in
    let few : (r : ℕ) → r + 8 ≤ length bs → (i : ℕ) → get_or (take 8 (drop r bs)) i 0 < 256 = λ r k i. ⊎_elim
    (λ (m : i < 8). let is : get_or (take 8 (drop r bs)) i 0 ≡ get_or bs (r + i) 0 = get_or-take 8 (drop r bs) i 0 m ∙ get_or-drop r bs i 0 in omega (arith, small (r + i)))
    (λ (m : 8 ≤ i). let none : get_or (take 8 (drop r bs)) i 0 ≡ 0 = get_or_past (take 8 (drop r bs)) i 0 (omega (arith, whole r k)) in omega arith)
    (cases_lt i 8) in
    let back : (r : ℕ) → r + 8 ≤ length bs → to_be_bytes w64 (from_be_bytes w64 (take 8 (drop r bs))) ≡ take 8 (drop r bs) = λ r k. be_bytes_8 (take 8 (drop r bs)) _ (whole r k) (few r k) refl in
    Decides-like _
    (λ e. sym (back p h) ∙ ap (to_be_bytes w64) e ∙ back q l)
    (λ e. ap (from_be_bytes w64) e)
    (Decides-eqb _ _)

-- the same eight bytes are the same name
same_from_alike : (bs : List ℕ) (i j : ℕ) → signal_place i + 10 ≤ length bs → signal_place j + 10 ≤ length bs → Alike bs i j → name_at bs i ≡ name_at bs j
same_from_alike bs i j h l a = ap (λ xs. take (name_length xs) xs) (eight_alike bs (signal_place i + 2) (signal_place j + 2) (omega arith) (omega arith) a)

-- the same name is the same eight bytes, where both signals keep their rules
alike_from_same : (bs : List ℕ) (i j : ℕ) → signal_place i + 10 ≤ length bs → signal_place j + 10 ≤ length bs → SignalRule bs i → SignalRule bs j → name_at bs i ≡ name_at bs j → Alike bs i j
alike_from_same bs i j h l r s e k m =
    let long : length (name_at bs i) ≡ length (name_at bs j) = ap length e in
    ⊎_elim
    (λ (b : k < length (name_at bs i)). sym (name_byte bs i h k b) ∙ ap (λ xs. get_or xs k 0) e ∙ name_byte bs j l k (omega arith))
    (λ (b : length (name_at bs i) ≤ k). r.zeros k b m ∙ sym (s.zeros k (omega arith) m))
    (cases_lt k (length (name_at bs i)))

-- ---- all signals

-- signals that keep their rules, with no name twice, pass the test
pub signals_good : (bs : List ℕ) (n : ℕ) → signal_place n ≤ length bs → ((i : ℕ) → i < n → SignalRule bs i) → ((i j : ℕ) → i < j → j < n → name_at bs i ≡ name_at bs j → ⊥) → (i : ℕ) → i < n → signal_good bs i ≡ true
signals_good bs n fits rules names i l =
    (signal_decides bs i (omega arith)).1 (
      rules i l,
      (unused_decides bs i).1 (λ j h a. names j i h l (same_from_alike bs j i (omega arith) (omega arith) a)),
    )

-- signals that pass the test keep their rules, and no name is there twice
pub signals_keep : (bs : List ℕ) (n : ℕ) → signal_place n ≤ length bs → ((i : ℕ) → i < n → signal_good bs i ≡ true) → ((i : ℕ) → i < n → SignalRule bs i) × ((i j : ℕ) → i < j → j < n → name_at bs i ≡ name_at bs j → ⊥)
signals_keep bs n fits good =
    let kept : (i : ℕ) → i < n → SignalRule bs i × (unused_name bs i ≡ true) = λ i l. (signal_decides bs i (omega arith)).0 (good i l) in (
      λ i l. (kept i l).0,
      λ i j h l e. (unused_decides bs j).0 (kept j l).1 i h
          (alike_from_same bs i j (omega arith) (omega arith) (kept i (omega arith)).0 (kept j l).0 e),
    )
