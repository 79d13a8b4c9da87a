-- Totals: two with one value are the same. Assumes nothing.
use Rattle.std.specs.Prelude.{◌≡◌, ◌^◌, ◌<◌}
use mathlib.Core.HLevel.{is_prop→PathP}
use Rattle.std.proofs.Math.Bridge.{le_prop}
use Rattle.reaction.specs.declared.total.Total.{Total}

pub same_total : (a b : Total) → a.value ≡ b.value → a ≡ b
same_total a b e = λ k. record { value = e k; fits = is_prop→PathP (λ j. e j < 2 ^ 32) (λ j. le_prop) a.fits b.fits k }
