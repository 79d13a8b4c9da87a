use Rattle.std.proofs.Common.{◌+◌, ◌*◌, arith}
use Rattle.std.proofs.lemmas.List.{take_rest}
use Rattle.chart.proofs.Decoding.{named_beyond, named_within}
use Rattle.chart.proofs.view.Chart.name.Goals as goal

pub returns-then-i-from : goal.returns-then-i-from
returns-then-i-from c = named_beyond c.args.self.now.bytes.now c.args.i (omega arith)

pub returns : goal.returns
returns c =
    let bs = c.args.self.now.bytes.now in
    let rest = take_rest bs (1 + 10 * c.args.i + 2) in
    rw rest (named_within bs c.args.i c.length_of_name-length.result (omega arith) (omega arith) (rw rest at c.length_of_name-length.ensures))
