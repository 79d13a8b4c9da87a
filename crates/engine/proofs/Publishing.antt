-- Publishing: the worklist through three calls. Assumes nothing.
use Rattle.std.proofs.Common.{◌≡◌, ℕ, ◌^◌, ◌<◌, ◌≤◌, Bool, false, ◌⊎◌, List, length, Ok, Err, Result, refl, ap, ◌∙◌, inl, inr, ⊎_elim, arith}
use Rattle.std.proofs.lemmas.Bool.{cases_lt}
use Rattle.fixpoint.specs.Solver.{Solved}
use Rattle.fixpoint.specs.System.{Equations}
use Rattle.fixpoint.specs.declared.solver.ShortArea.{ShortArea}
use Rattle.chart.specs.Decoded.{Decoded}
use Rattle.status.specs.declared.status.Status.{Status}
use Rattle.reaction.specs.declared.fault.Fault.{Fault}
use Rattle.engine.specs.Answer.{Held}
use Rattle.engine.specs.Instant.{Passes}
use Rattle.engine.specs.Publish.{Solves, Worked}
use Rattle.engine.specs.Runner.{Takes}
use Rattle.engine.proofs.Outcomes.{passes_or_not}

-- solving, the worklist aside
pub solved_aside : {E : Type 0} {s : Equations E} {before after : List E} {waiting : ℕ → Bool} → Solved s before after waiting → Solved s before after (λ _. false)
solved_aside r = record { holds_least = r.holds_least; solution = r.solution; lowest = r.lowest; untouched = r.untouched; idle = λ _. refl }

-- an instant, the worklist aside
pub takes_aside : {c : Decoded} {h then : Held} {mask : ℕ} {before after : List Status} {waiting : ℕ → Bool} {Unchanged : Type 0} {old new : List ℕ} {answer : Result ℕ Fault}
    → Takes c h mask before after waiting Unchanged old new answer then → Takes c h mask before after (λ _. false) (Unit {0}) old new answer then
takes_aside t = record { holds = t.holds; gives = t.gives; solved = λ p. solved_aside (t.solved p); unchanged = λ np. ((t.unchanged np).0, tt) }

-- what solving gives, with the worklist and without
pub solves : {E : Type 0} {s : Equations E} {before after : List E} {waiting : ℕ → Bool} {Unchanged : Type 0} {answer : Result (Unit {0}) ShortArea}
    → (length before < s.count → (answer ≡ Err (record { needed = s.count })) × (after ≡ before) × Unchanged)
    → (s.count ≤ length before → (answer ≡ Ok tt) × Solved s before after waiting) → Solves s before after answer
solves short enough = (λ l. ((short l).0, (short l).1), λ l. ((enough l).0, solved_aside (enough l).1))

pub worked : {E : Type 0} {s : Equations E} {before after : List E} {waiting : ℕ → Bool} {Unchanged : Type 0} {answer : Result (Unit {0}) ShortArea}
    → (length before < s.count → (answer ≡ Err (record { needed = s.count })) × (after ≡ before) × Unchanged)
    → (s.count ≤ length before → (answer ≡ Ok tt) × Solved s before after waiting) → Worked (s.count ≤ length before) waiting Unchanged
worked {E} {s} {before} short enough = ⊎_elim
    (λ (l : length before < s.count). inr (λ h. omega arith, (short l).2))
    (λ (l : s.count ≤ length before). inl (l, (enough l).1.idle))
    (cases_lt (length before) s.count)

-- an instant solves where it passes the earlier checks, and only there
pub took : {c : Decoded} {h then : Held} {mask : ℕ} {before after : List Status} {waiting : ℕ → Bool} {Unchanged : Type 0} {old new : List ℕ} {answer : Result ℕ Fault}
    → mask < 2 ^ 64 → Takes c h mask before after waiting Unchanged old new answer then → Worked (Passes c h mask (length before)) waiting Unchanged
took {c} {h} {then} {mask} {before} small t = ⊎_elim (λ p. inl (p, (t.solved p).idle)) (λ np. inr (np, (t.unchanged np).1)) (passes_or_not c h mask (length before) small)

-- one call after another
pub then_worked : {W : Type 0} (waiting : W → ℕ → Bool) {a b d : W} {P Q : Type 0} → Worked P (waiting b) (b ≡ a) → Worked Q (waiting d) (d ≡ b) → Worked (P ⊎ Q) (waiting d) (d ≡ a)
then_worked waiting {a} {b} {d} {P} {Q} first second = ⊎_elim
    (λ (y : Q × ((i : ℕ) → waiting d i ≡ false)). inl (inr y.0, y.1))
    (λ (n : (Q → ⊥) × (d ≡ b)). ⊎_elim
    (λ (y : P × ((i : ℕ) → waiting b i ≡ false)). inl (inl y.0, λ i. ap (λ w. waiting w i) n.1 ∙ y.1 i))
    (λ (m : (P → ⊥) × (b ≡ a)). inr (⊎_elim m.0 n.0, n.1 ∙ m.1))
    first)
    second
