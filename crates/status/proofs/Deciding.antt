-- Where every signal is decided: there is one solution, and each automaton fires at most one transition. Assumes nothing.
use Rattle.std.proofs.Common.{◌≡◌, ℕ, zero, suc, ◌*◌, ◌<◌, ◌≤◌, Bool, true, false, ◌&&◌, cond, eqb, List, [], ◌∷◌, map, length, get_or, take, filter, Option, sym, ap, ◌∙◌, subst, ⊎_elim, inl, inr, arith}
use Rattle.std.proofs.lemmas.List.{get_or-take, length-take}
use Rattle.std.proofs.lemmas.Bool.{true≢false, and_parts, and_from, cond-true, eq-eqb}
use Rattle.fixpoint.specs.System.{Assignment, Solution, place, least}
use Rattle.fixpoint.proofs.Leastness.{rounds_below, solution_closed}
use Rattle.chart.specs.Decoded.{Decoded, no_transition}
use Rattle.chart.specs.declared.transition.Transition.{Transition}
use Rattle.bits.specs.Members.{every}
use Rattle.status.specs.Equations.{live, guard, rivals, firing, assigned, status_equations}
use Rattle.status.specs.Solved.{Decided}
use Rattle.status.specs.Status.{status, unknown, united, opposite}
use Rattle.status.specs.StatusLaws.{status_laws}
use Rattle.status.specs.declared.status.Status.{Status}
use Rattle.status.proofs.Clashes.{NoClash, guard_no_clash, assigned_no_clash}

-- a decided status is no clash
pub decided_no_clash : (a : Status) → Decided a → NoClash a
decided_no_clash a (inl e) p q = true≢false (sym q ∙ ap (λ (x : Status). x.absent) e)
decided_no_clash a (inr e) p q = true≢false (sym p ∙ ap (λ (x : Status). x.present) e)

-- a decided status below a decided one is the same
decided_below : (a b : Status) → Decided a → Decided b → united a b ≡ b → a ≡ b
decided_below a b d e h =
    let p = ap (λ (x : Status). x.present) h in
    let q = ap (λ (x : Status). x.absent) h in
    ⊎_elim (λ (k : a ≡ status true false). ⊎_elim (λ (l : b ≡ status true false). k ∙ sym l) (λ (l : b ≡ status false true). cc) e)
    (λ (k : a ≡ status false true). ⊎_elim (λ (l : b ≡ status true false). cc) (λ (l : b ≡ status false true). k ∙ sym l) e) d

-- where the least solution decides every signal, it is the only solution that does
pub only_solution : (c : Decoded) (states : List (Option ℕ)) (mask : ℕ) → length c.signals ≤ 64
    → let s = status_equations c states mask in
    ((k : ℕ) → k < s.count → Decided (place s (least s) k))
    → (xs : List Status) → Assignment s xs → Solution s xs → ((k : ℕ) → k < s.count → Decided (place s xs k))
    → (k : ℕ) → k < s.count → place s xs k ≡ place s (least s) k
only_solution c states mask few low xs long solved high k h =
    let s = status_equations c states mask in
    let laws = status_laws c states mask few in
    sym (decided_below (place s (least s) k) (place s xs k) (low k h) (high k h) (rounds_below s laws xs long (solution_closed s laws xs solved) (s.count * s.height) k h))

-- if all that is kept of a list is present, an element that passes the test is
every_kept : {A : Type 0} (p : A → Bool) (f : A → Status) (xs : List A) (i : ℕ) (d : A) → i < length xs → p (get_or xs i d) ≡ true
    → every (λ a. a.present) (map f (filter p xs)) ≡ true → (f (get_or xs i d)).present ≡ true
every_kept p f [] i d l t h = absurd (omega arith)
every_kept p f (x ∷ xs) zero d l t h =
    let kept = cond-true (p x) (x ∷ filter p xs) (filter p xs) t in
    (and_parts (f x).present _ (rw kept at h)).0
every_kept p f (x ∷ xs) (suc i) d l t h =
    let rest = every_kept p f xs i d (omega arith) t in
    elim (p x) as (λ b. every (λ a. a.present) (map f (cond b (x ∷ filter p xs) (filter p xs))) ≡ true → (f (get_or xs i d)).present ≡ true) [
      | true ↦ λ g. rest (and_parts (f x).present _ g).1
      | false ↦ rest
    ] h

-- of two live transitions of one automaton at most one fires, where no signal has a clash:
-- the later one's firing is shown only where the earlier one's guard is shown absent
pub one_firing : (states : List (Option ℕ)) (u : ℕ → Status) → ((s : ℕ) → NoClash (u s))
    → (ts : List Transition) (i j : ℕ) → i < j → j < length ts
    → let first = get_or ts i no_transition in
    let second = get_or ts j no_transition in
    live states first ≡ true → first.automaton ≡ second.automaton
    → (firing states u (take i ts) first).present ≡ true → (firing states u (take j ts) second).present ≡ true → ⊥
one_firing states u calm ts i j before within alive same p q =
    let first = get_or ts i no_transition in
    let second = get_or ts j no_transition in
    let test : Transition → Bool = λ e. live states e && eqb e.automaton second.automaton in
    let barred : Transition → Status = λ e. opposite (guard u e) in
    let at : get_or (take j ts) i no_transition ≡ first = get_or-take j ts i no_transition before in
    let passes : test first ≡ true = and_from (live states first) (eqb first.automaton second.automaton) alive (eq-eqb first.automaton second.automaton same) in
    let others = (and_parts (guard u second).present (every (λ a. a.present) (map barred (filter test (take j ts)))) q).1 in
    let off = every_kept test barred (take j ts) i no_transition (omega (arith, length-take j ts)) (subst (λ t. test t ≡ true) (sym at) passes) others in
    guard_no_clash u calm first
    (and_parts (guard u first).present (every (λ a. a.present) (map barred (rivals states first.automaton (take i ts)))) p).0
    (subst (λ t. (guard u t).absent ≡ true) at off)

-- so where every signal of an assignment is decided
pub one_firing_decided : (n : ℕ) (xs : List Status) → ((k : ℕ) → k < n → Decided (get_or xs k unknown))
    → (states : List (Option ℕ)) (ts : List Transition) (i j : ℕ) → i < j → j < length ts
    → let first = get_or ts i no_transition in
    let second = get_or ts j no_transition in
    live states first ≡ true → first.automaton ≡ second.automaton
    → (firing states (assigned n xs) (take i ts) first).present ≡ true → (firing states (assigned n xs) (take j ts) second).present ≡ true → ⊥
one_firing_decided n xs decided states =
    one_firing states (assigned n xs) (assigned_no_clash n xs (λ k h. decided_no_clash (get_or xs k unknown) (decided k h)))
