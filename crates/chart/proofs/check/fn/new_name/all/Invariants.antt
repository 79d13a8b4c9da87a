use Rattle.std.proofs.Common.{◌≡◌, not, eqb, take, drop, w64}
use Rattle.std.specs.Int.{from_be_bytes}
use Rattle.chart.proofs.check.fn.new_name.all.Given as goal

-- the eight bytes of an earlier record, as a number
abbrev pub ensures : goal.ensures
ensures l r = r ≡ not (eqb (from_be_bytes w64 (take 8 (drop 2 l.earlier.entry.now))) l.name)
