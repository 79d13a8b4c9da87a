-- The walk over a chart file in order, to its first fault. Assumes nothing.
use Rattle.std.specs.Prelude.{◌≡◌, ℕ, zero, suc, ◌+◌, ◌*◌, ◌^◌, Bool, true, cond, not, ◌&&◌, ◌||◌, List, length, Ok, Err, Result, ◌==◌, bit_and, nat_eq, nat_le, nat_lt}
use Rattle.bits.specs.Bits.{bit}
use Rattle.chart.specs.Places.{byte, number8}
use Rattle.chart.specs.declared.fault.ChartFault.{ChartFault}
use Rattle.chart.specs.declared.fault.ChartFault.TheVariants.{EndsEarly, CountOutOfRange, BrokenSignal, BrokenAutomaton, BrokenTransition, BytesRemain}

-- each number below n passes a test
unfoldable pub all_below : (ℕ → Bool) → ℕ → Bool
all_below p zero = true
all_below p (suc n) = p n && all_below p n

-- ---- a signal

abbrev pub is_letter : ℕ → Bool
is_letter b = (nat_le 97 b && nat_le b 122) || (nat_le 48 b && nat_le b 57)

-- n zero bytes from place p on
unfoldable pub zeros : List ℕ → ℕ → ℕ → Bool
zeros bs zero p = true
zeros bs (suc n) p = byte bs p == 0 && zeros bs n (p + 1)

-- n bytes from place p on: letters and digits up to the first zero byte, and then zero bytes alone
unfoldable pub tidy : List ℕ → ℕ → ℕ → Bool
tidy bs zero p = true
tidy bs (suc n) p = cond (byte bs p == 0) (zeros bs n (p + 1)) (is_letter (byte bs p) && tidy bs n (p + 1))

-- the eight bytes from p on are those from q on
abbrev pub same_eight : List ℕ → ℕ → ℕ → Bool
same_eight bs p q = all_below (λ k. nat_eq (byte bs (p + k)) (byte bs (q + k))) 8

-- no earlier signal has the name of signal i
abbrev pub unused_name : List ℕ → ℕ → Bool
unused_name bs i = all_below (λ j. not (same_eight bs (1 + 10 * j + 2) (1 + 10 * i + 2))) i

-- signal i, at its place in the file
abbrev pub signal_good : List ℕ → ℕ → Bool
signal_good bs i =
    nat_le (byte bs (1 + 10 * i)) 2
    && (nat_le (byte bs (1 + 10 * i + 1)) 2
    && ((not (byte bs (1 + 10 * i) == 0) || byte bs (1 + 10 * i + 1) == 0)
    && (not (byte bs (1 + 10 * i + 2) == 0)
    && (tidy bs 8 (1 + 10 * i + 2)
    && unused_name bs i))))

-- ---- an automaton; p is the place of the first

-- the states of the first k automata together
unfoldable pub states_upto : List ℕ → ℕ → ℕ → ℕ
states_upto bs p zero = 0
states_upto bs p (suc k) = states_upto bs p k + byte bs (p + 4 * k + 2)

abbrev pub owner_good : List ℕ → ℕ → ℕ → Bool
owner_good bs p k = cond (byte bs (p + 4 * k) == 255)
    (byte bs (p + 4 * k + 1) == 0)
    (nat_lt (byte bs (p + 4 * k)) k && nat_lt (byte bs (p + 4 * k + 1)) (byte bs (p + 4 * byte bs (p + 4 * k) + 2)))

abbrev pub automaton_good : List ℕ → ℕ → ℕ → Bool
automaton_good bs p k =
    owner_good bs p k
    && ((nat_le 1 (byte bs (p + 4 * k + 2)) && nat_le (byte bs (p + 4 * k + 2)) 32)
    && (nat_lt (byte bs (p + 4 * k + 3)) (byte bs (p + 4 * k + 2))
    && nat_le (states_upto bs p (k + 1)) 64))

-- ---- a transition; p is the place of the automata's count, q that of the first transition

-- no input among the emitted signals
abbrev pub no_input : List ℕ → ℕ → Bool
no_input bs emitted = all_below (λ s. not (bit emitted s && byte bs (1 + 10 * s) == 0)) (byte bs 0)

-- the bits of a mask are those of the inputs among the signals
abbrev pub AreInputs : List ℕ → ℕ → Type 0
AreInputs bs inputs = (s : ℕ) → bit inputs s ≡ (nat_lt s (byte bs 0) && byte bs (1 + 10 * s) == 0)

abbrev pub state_good : List ℕ → ℕ → ℕ → ℕ → Bool
state_good bs p automaton state = nat_lt state (byte bs (p + 1 + 4 * automaton + 2))

-- a mask below two to the number of signals
abbrev pub mask_good : ℕ → ℕ → Bool
mask_good signals mask = nat_lt mask (2 ^ signals)

abbrev pub masks_good : List ℕ → ℕ → ℕ → ℕ → Bool
masks_good bs needed forbidden emitted =
    mask_good (byte bs 0) needed
    && (mask_good (byte bs 0) forbidden
    && (mask_good (byte bs 0) emitted
    && (bit_and needed forbidden == 0
    && no_input bs emitted)))

abbrev pub transition_good : List ℕ → ℕ → ℕ → ℕ → Bool
transition_good bs p q i =
    nat_lt (byte bs (q + 31 * i)) (byte bs p)
    && (state_good bs p (byte bs (q + 31 * i)) (byte bs (q + 31 * i + 1))
    && (state_good bs p (byte bs (q + 31 * i)) (byte bs (q + 31 * i + 2))
    && masks_good bs (number8 bs (q + 31 * i + 3)) (number8 bs (q + 31 * i + 11)) (number8 bs (q + 31 * i + 19))))

-- ---- the walk

-- n records of `size` bytes from record i on, the first record of all at place p: a record that is cut short comes before its contents.
-- The answer is the next place
unfoldable pub records : ℕ → (ℕ → Bool) → (ℕ → ChartFault) → List ℕ → ℕ → ℕ → ℕ → Result ℕ ChartFault
records size good fault bs p zero i = Ok (p + size * i)
records size good fault bs p (suc n) i =
    cond (nat_lt (length bs) (p + size * i + size)) (Err (EndsEarly (length bs)))
    (cond (good i) (records size good fault bs p n (i + 1)) (Err (fault (p + size * i))))

-- the count at place p, from low to high
abbrev pub counted : ℕ → ℕ → List ℕ → ℕ → Result ℕ ChartFault
counted low high bs p = cond (nat_le (length bs) p) (Err (EndsEarly (length bs)))
    (cond (nat_le low (byte bs p) && nat_le (byte bs p) high) (Ok (byte bs p)) (Err (CountOutOfRange p)))

-- the first fault, or what comes next
abbrev pub and_then : {A B : Type 0} → Result A ChartFault → (A → Result B ChartFault) → Result B ChartFault
and_then (Ok a) next = next a
and_then (Err e) next = Err e

-- a count at place p and that many records
abbrev pub section : ℕ → ℕ → ℕ → (ℕ → Bool) → (ℕ → ChartFault) → List ℕ → ℕ → Result ℕ ChartFault
section low high size good fault bs p = and_then (counted low high bs p) (λ n. records size good fault bs (p + 1) n 0)

-- whatever comes of a call at a number is what the function is there
abbrev pub Gives : {A : Type 0} → (ℕ → A → Type 0) → (ℕ → A) → Type 0
Gives {A} post f = (n : ℕ) (a : A) → post n a → a ≡ f n

-- three sections one after the other, and nothing more
abbrev pub verdict : List ℕ → Result (Unit {0}) ChartFault
verdict bs =
    and_then (section 1 64 10 (signal_good bs) BrokenSignal bs 0) (λ p.
    and_then (section 1 32 4 (automaton_good bs (p + 1)) BrokenAutomaton bs p) (λ q.
    and_then (section 0 128 31 (transition_good bs p (q + 1)) BrokenTransition bs q) (λ e.
    cond (nat_lt e (length bs)) (Err (BytesRemain e)) (Ok tt))))
