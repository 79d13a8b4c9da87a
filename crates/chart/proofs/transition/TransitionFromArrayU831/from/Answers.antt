use Rattle.std.proofs.Common.{rules, ap, ◌∙◌}
use Rattle.std.specs.Int.{from_be_bytes, w32, w64}
use Rattle.chart.proofs.RecordBytes.{be4, be8}
use Rattle.chart.proofs.transition.TransitionFromArrayU831.from.Goals as goal

pub returns : goal.returns
returns c =
    let bs = c.args.bytes in
    let needed = c.from_be_bytes.ensures ∙ ap (from_be_bytes w64) c.array_at.ensures ∙ be8 bs 3 in
    let forbidden = c.from_be_bytes-2.ensures ∙ ap (from_be_bytes w64) c.array_at-2.ensures ∙ be8 bs 11 in
    let emitted = c.from_be_bytes-3.ensures ∙ ap (from_be_bytes w64) c.array_at-3.ensures ∙ be8 bs 19 in
    let amount = c.from_be_bytes-4.ensures ∙ ap (from_be_bytes w32) c.array_at-4.ensures ∙ be4 bs 27 in
    search (rules, needed, forbidden, emitted, amount)
