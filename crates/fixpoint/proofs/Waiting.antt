-- What putting and taking give of the waiting set. Assumes nothing.
use Rattle.std.proofs.Common.{◌≡◌, ℕ, ◌+◌, ◌<◌, Bool, true, false, ◌&&◌, ◌||◌, eqb, ltb, sym, ap, ◌∙◌, ⊎_elim, arith}
use Rattle.std.proofs.lemmas.Bool.{cases_eq, lt-ltb, true≢false}
use Rattle.std.proofs.lemmas.Bool.Decides.{nat_tests}
use Rattle.fixpoint.specs.Worklist.{Put, with_number}

-- a number below 128 that is put waits too
pub put_small : {W : Type 0} {waiting : W → ℕ → Bool} {before after : W} {i : ℕ} {answer : Bool}
    → Put waiting before i answer after → i < 128 → (j : ℕ) → waiting after j ≡ with_number i (waiting before) j
put_small {i = i} p h = p.waits_too (p.answered ∙ lt-ltb i 128 h)

-- a number below 128 is accepted, and waits too
pub put_accepted : {L : Type 0} {waiting : L → ℕ → Bool} {a b : L} {i : ℕ} → i < 128 → ((j : ℕ) → waiting b j ≡ with_number i (waiting a) j) → Put waiting a i true b
put_accepted {i = i} l h = record { answered = sym (lt-ltb i 128 l); refused = λ e. absurd (true≢false e); waits_too = λ _. h }

-- one number more of those below n for which a test holds
pub waits_more : (old reads : ℕ → Bool) (now next : Bool) (n k : ℕ) → reads n ≡ true
    → now ≡ (old k || (ltb k n && reads k)) → next ≡ (now || eqb k n) → next ≡ (old k || (ltb k (n + 1) && reads k))
waits_more old reads now next n k r e p = ⊎_elim
    (λ (d : k ≡ n). let q : reads k ≡ true = ap reads d ∙ r in grind (arith, nat_tests))
    (λ (d : k ≡ n → ⊥). grind (arith, nat_tests))
    (cases_eq k n)

-- one number more for which it does not
pub waits_less : (old reads : ℕ → Bool) (now : Bool) (n k : ℕ) → reads n ≡ false
    → now ≡ (old k || (ltb k n && reads k)) → now ≡ (old k || (ltb k (n + 1) && reads k))
waits_less old reads now n k r e = ⊎_elim
    (λ (d : k ≡ n). let q : reads k ≡ false = ap reads d ∙ r in grind (arith, nat_tests))
    (λ (d : k ≡ n → ⊥). grind (arith, nat_tests))
    (cases_eq k n)
