use Rattle.std.proofs.Common.{arith}
use Rattle.chart.specs.Decoded.{decode}
use Rattle.engine.proofs.Inputs.{others_are}
use Rattle.engine.proofs.calls.other_bits.Goals as goal

pub returns : goal.returns
returns c = others_are (decode c.args.chart.now.bytes.now) c.args.mask c.inputs.result (omega arith) (omega arith) c.inputs.ensures
