use Rattle.std.proofs.Common.{◌/◌, length, take, ap, ◌∙◌}
use Rattle.std.specs.Simd.{first_chunks}
use Rattle.std.proofs.lemmas.List.{take_rest}
use Rattle.chart.proofs.RecordBytes.{records_made}
use Rattle.chart.proofs.records_of.Goals as goal

pub returns : goal.returns
returns g c =
    let bs = c.args.bytes.now in
    ap (take c.args.count) (c.as_chunks.ensures.front ∙ ap (λ xs. first_chunks g.row.N (length xs / g.row.N) xs) (take_rest bs c.args.first))
    ∙ records_made bs g.row.N c.args.first c.args.count c.requires.size c.requires.room
