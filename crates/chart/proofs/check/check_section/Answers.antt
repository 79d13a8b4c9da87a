use Rattle.std.proofs.Common.{◌≡◌, ℕ, ◌+◌, ◌-◌, ◌*◌, Err, Ok, sym, ap, ◌∙◌, arith}
use Rattle.chart.specs.Check.{and_then, records}
use Rattle.chart.proofs.Walk.{records_none, records_cut, records_broken, records_more}
use Rattle.chart.proofs.check.check_section.Goals as goal

pub loop-i-init : goal.loop-i-init
loop-i-init g c test fault gives =
    let walk : ℕ → _ = λ n. records g.row.N test fault c.args.bytes.now (c.args.at + 1) n 0 in
    let all : c.in_ok-read_count.field-0 ≡ c.from-count.result - 0 = omega (arith, c.from-count.ensures) in
    ap (λ r. and_then r walk) (sym c.read_count.ensures ∙ c.in_ok-read_count.was) ∙ ap walk all

pub returns-then-bytes-place : goal.returns-then-bytes-place
returns-then-bytes-place g c test fault gives broken =
    sym (c.loop-i.invariant test fault gives
    ∙ records_cut g.row.N test fault c.args.bytes.now (c.args.at + 1) (c.from-count.result - c.loop-i.i) c.loop-i.i (omega arith) c.if-bytes-place.true)

pub returns-then-not-good : goal.returns-then-not-good
returns-then-not-good g c test fault gives broken =
    ap Err (broken _ _ c.broken.ensures)
    ∙ sym (c.loop-i.invariant test fault gives
    ∙ records_broken g.row.N test fault c.args.bytes.now (c.args.at + 1) (c.from-count.result - c.loop-i.i) c.loop-i.i (omega arith) c.if-bytes-place.false
    (sym (gives _ _ c.good.ensures) ∙ c.if-not-good.true))

pub loop-i-preserved : goal.loop-i-preserved
loop-i-preserved g c test fault gives =
    let less : c.from-count.result - c.loop-i.i - 1 ≡ c.from-count.result - (c.loop-i.i + 1) = omega arith in
    c.loop-i.invariant test fault gives
    ∙ records_more g.row.N test fault c.args.bytes.now (c.args.at + 1) (c.from-count.result - c.loop-i.i) c.loop-i.i (omega arith) c.if-bytes-place.false
    (sym (gives _ _ c.good.ensures) ∙ c.if-not-good.false)
    ∙ ap (λ n. records g.row.N test fault c.args.bytes.now (c.args.at + 1) n (c.loop-i.i + 1)) less

pub returns : goal.returns
returns g c test fault gives broken =
    let end : c.loop-i.i ≡ c.from-count.result = omega arith in
    sym (c.loop-i.invariant test fault gives
    ∙ records_none g.row.N test fault c.args.bytes.now (c.args.at + 1) (c.from-count.result - c.loop-i.i) c.loop-i.i (omega arith)
    ∙ ap (λ n. Ok (c.args.at + 1 + g.row.N * n)) end)
