-- What a system of equations means, its laws, and its least solution. Assumes nothing.
use Rattle.std.specs.Prelude.{◌≡◌, ℕ, zero, suc, ◌*◌, ◌<◌, ◌≤◌, Bool, true, false, List, map, length, replicate, ◌≢◌, slice_index_or}
use Rattle.std.specs.List.{range_with_len}

-- a system of `count` equations, one for each unknown, over elements E
pub record Equations (E : Type 0) : Type 0 where
  -- the least element
  pub bottom : E
  -- the least element above two
  pub join : E → E → E
  -- how high an element stands, and how high one can stand
  pub rank : E → ℕ
  pub height : ℕ
  -- how many unknowns there are
  pub count : ℕ
  -- what equation i gives on an assignment, a list whose place j holds unknown j
  pub evaluate : ℕ → List E → E
  -- whether equation i reads unknown j
  pub reads : ℕ → ℕ → Bool

-- a lies below b
abbrev pub Below : {E : Type 0} → Equations E → E → E → Type 0
Below s a b = s.join a b ≡ b

-- what an assignment holds at place k
abbrev pub place : {E : Type 0} → Equations E → List E → ℕ → E
place s xs k = slice_index_or xs k s.bottom

-- an assignment has a place for each unknown
abbrev pub Assignment : {E : Type 0} → Equations E → List E → Type 0
Assignment s xs = s.count ≤ length xs

-- xs lies below ys at the place of each unknown
abbrev pub BelowAll : {E : Type 0} → Equations E → List E → List E → Type 0
BelowAll s xs ys = (k : ℕ) → k < s.count → Below s (place s xs k) (place s ys k)

-- the laws that each system shows
pub record Laws {E : Type 0} (s : Equations E) : Type 0 where
  pub associative : (a b c : E) → s.join (s.join a b) c ≡ s.join a (s.join b c)
  pub commutative : (a b : E) → s.join a b ≡ s.join b a
  pub idempotent : (a : E) → s.join a a ≡ a
  pub neutral : (a : E) → s.join s.bottom a ≡ a
  -- a join that differs from its left side has a higher rank, and no rank is above the height
  pub rises : (a b : E) → (s.join a b ≢ a) → s.rank a < s.rank (s.join a b)
  pub bounded : (a : E) → s.rank a ≤ s.height
  pub few : s.count ≤ 128
  -- no equation beyond the last, no value on too few places, no unknown beyond the last that is read
  pub beyond : (i : ℕ) (xs : List E) → s.count ≤ i → s.evaluate i xs ≡ s.bottom
  pub short : (i : ℕ) (xs : List E) → length xs < s.count → s.evaluate i xs ≡ s.bottom
  pub within : (i j : ℕ) → s.count ≤ j → s.reads i j ≡ false
  -- a larger assignment gives larger evaluations
  pub monotone : (xs ys : List E) → Assignment s xs → Assignment s ys → BelowAll s xs ys
      → (i : ℕ) → Below s (s.evaluate i xs) (s.evaluate i ys)
  -- assignments that agree at every place that equation i reads give it one value
  pub local : (xs ys : List E) → Assignment s xs → Assignment s ys
      → (i : ℕ) → ((j : ℕ) → s.reads i j ≡ true → place s xs j ≡ place s ys j) → s.evaluate i xs ≡ s.evaluate i ys

-- each place holds what its equation evaluates to
abbrev pub Solution : {E : Type 0} → Equations E → List E → Type 0
Solution s xs = (i : ℕ) → i < s.count → s.evaluate i xs ≡ place s xs i

-- each evaluation lies below what its place holds
abbrev pub Closed : {E : Type 0} → Equations E → List E → Type 0
Closed s xs = (i : ℕ) → i < s.count → Below s (s.evaluate i xs) (place s xs i)

-- all places replaced together by their evaluations
abbrev pub round : {E : Type 0} → Equations E → List E → List E
round s xs = map (λ i. s.evaluate i xs) (range_with_len 0 s.count)

-- m rounds from bottoms alone
unfoldable pub rounds : {E : Type 0} → Equations E → ℕ → List E
rounds s zero = replicate s.count s.bottom
rounds s (suc m) = round s (rounds s m)

-- the least solution: count × height rounds from bottoms alone
abbrev pub least : {E : Type 0} → Equations E → List E
least s = rounds s (s.count * s.height)
