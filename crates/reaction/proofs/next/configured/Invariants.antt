use Rattle.std.proofs.Common.{◌≡◌, ℕ, [], length, drop}
use Rattle.chart.specs.Decoded.{decode}
use Rattle.reaction.specs.Next.{Gives, settled}
use Rattle.reaction.specs.declared.next.Outcome.{Outcome}
use Rattle.reaction.proofs.next.configured.Given as goal

-- the automata that are left decide
abbrev pub invariant-loop-k : goal.invariant-loop-k
invariant-loop-k g l =
    let c = decode l.chart.bytes.now in
    ((does : ℕ → Outcome) → Gives c (λ k a r. g.F.Fn.post l.fn.itself (k, (a, tt)) r) does → settled does (drop (length l.outcomes.items) c.automata) l.outcomes.items ≡ settled does c.automata [])
    × (length l.outcomes.items ≡ length l.yielded)
