use Rattle.std.proofs.Common.{◌/◌, ◌^◌, ◌<◌, ◌≤◌, sym, ◌∙◌, ⊎_elim, arith, pow_mono}
use Rattle.std.proofs.lemmas.Nat.{div_below, le-div, pow_pos}
use Rattle.std.proofs.lemmas.Bool.{cases_lt, eq-eqb, le-leb, le-ltb, lt-ltb, ne_eqb}
use Rattle.chart.proofs.check.good_mask.Goals as goal

pub returns-then-signals-ge64 : goal.returns-then-signals-ge64
returns-then-signals-ge64 c =
    let below : c.args.mask < 2 ^ c.args.signals = omega (arith, pow_mono {i = 64} {j = c.args.signals} c.if-signals-ge64.true) in
    le-leb 64 c.args.signals c.if-signals-ge64.true ∙ sym (lt-ltb c.args.mask (2 ^ c.args.signals) below)

pub returns-else-signals-ge64 : goal.returns-else-signals-ge64
returns-else-signals-ge64 c = ⊎_elim
    (λ (l : c.args.mask < 2 ^ c.args.signals).
    let none = div_below c.args.mask (2 ^ c.args.signals) 1 (pow_pos c.args.signals) (omega arith) in
    eq-eqb (c.args.mask / 2 ^ c.args.signals) 0 (omega arith) ∙ sym (lt-ltb c.args.mask (2 ^ c.args.signals) l))
    (λ (l : 2 ^ c.args.signals ≤ c.args.mask).
    let some = le-div 1 c.args.mask (2 ^ c.args.signals) (pow_pos c.args.signals) (omega arith) in
    ne_eqb (c.args.mask / 2 ^ c.args.signals) 0 (λ e. omega arith) ∙ sym (le-ltb c.args.mask (2 ^ c.args.signals) l))
    (cases_lt c.args.mask (2 ^ c.args.signals))
