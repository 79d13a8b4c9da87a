-- The story behind a runner, and what it keeps. Assumes nothing.
use Rattle.std.proofs.Common.{◌≡◌, ℕ, ◌^◌, ◌<◌, ◌≤◌, true, List, [], ◌∷◌, ◌++◌, sym, ◌∙◌, arith}
use mathlib.Core.Logic.{∥∥₁_elim, ∥∥₁_map}
use native.Mathlib.Bridge.{le_prop}
use Rattle.bits.specs.Bits.{bit}
use Rattle.chart.specs.Decoded.{Decoded, decode, input}
use Rattle.engine.specs.Answer.{Held, at_start, not_inputs, outcome_of}
use Rattle.engine.specs.Runner.{holding, rules}
use Rattle.engine.specs.Story.{Behind, Told, answered}
use Rattle.engine.specs.declared.runner.Runner.{Runner}
use Rattle.engine.proofs.Inputs.{inputs_only}
use Rattle.engine.proofs.Outcomes.{by_outcome}
use Rattle.engine.proofs.Stories.{behind_instant, kept_by_story}

-- the count stays at or below a million
after_count : (c : Decoded) (h : Held) (mask places room : ℕ) → h.count ≤ 1000000 → (outcome_of c h mask places room).after.count ≤ 1000000
after_count c h mask places room l = by_outcome c h mask places room (λ o. o.after.count ≤ 1000000) (λ _. l) (λ below. omega arith)

-- a runner's story
abbrev pub Past : List ℕ → Held → Type 0
Past bytes h = ∥ ((story : List Told) × Behind bytes story h) ∥₁

-- a runner has counted at most a million instants
pub past_count : (bytes : List ℕ) (h : Held) → Past bytes h → h.count ≤ 1000000
past_count bytes h past = ∥∥₁_elim past le_prop (λ p. kept_by_story (decode bytes) (λ g. g.count ≤ 1000000) (omega arith) (after_count (decode bytes)) (at_start (decode bytes)) h p.0 p.1 (omega arith))

pub counted : (r : Runner) → r.count ≤ 1000000
counted r = past_count r.chart.bytes.now (holding r) r.past

-- where no bit is left over and it has not counted a million, its mask has only inputs, and it may count one more
pub ready : (r : Runner) (mask others : ℕ) → mask < 2 ^ 64 → others ≡ not_inputs (rules r) mask → others ≡ 0 → (r.count ≡ 1000000 → ⊥)
    → ((s : ℕ) → bit mask s ≡ true → input (rules r) s ≡ true) × (r.count < 1000000)
ready r mask others small is none below = (inputs_only (rules r) mask small (sym is ∙ none), omega (arith, counted r))

-- a story behind it after an instant and after a reset
pub past_instant : (bytes : List ℕ) (h then : Held) (mask places room : ℕ) → then ≡ (outcome_of (decode bytes) h mask places room).after → Past bytes h → Past bytes then
past_instant bytes h then mask places room e past = ∥∥₁_map past (λ p. (p.0 ++ (answered mask places room (outcome_of (decode bytes) h mask places room).reply ∷ []), behind_instant bytes h then mask places room e p.0 p.1))

pub past_start : (bytes : List ℕ) (then : Held) → then ≡ at_start (decode bytes) → Past bytes then
past_start bytes then e = ∣ ([], sym e) ∣₁
