use Rattle.std.proofs.Common.{◌≡◌, ℕ, ◌+◌, ◌-◌, Bool}
use Rattle.chart.specs.Check.{Gives, records, section}
use Rattle.chart.specs.declared.fault.ChartFault.{ChartFault}
use Rattle.chart.proofs.check.check_section.Given as goal

-- the records that are left decide
abbrev pub invariant-loop-i : goal.invariant-loop-i
invariant-loop-i g l =
    (test : ℕ → Bool) (fault : ℕ → ChartFault) → Gives (goal.G-post g l.good) test →
    section l.low l.high g.row.N test fault l.bytes l.at ≡ records g.row.N test fault l.bytes (l.at + 1) (l.count - l.i) l.i
