use Rattle.std.proofs.Common.{arith}
use Rattle.std.proofs.lemmas.List.{length-take}
use Rattle.chart.proofs.Decoding.{few_signals}
use Rattle.status.specs.declared.status.Status.{Status}
use Rattle.status.proofs.equations.StatusSystemSystem.evaluate.Goals as goal

pub gather-requires : goal.gather-requires
gather-requires c =
    let few = few_signals c.args.self.now.chart.bytes.now c.args.self.now.chart.layout in
    omega (arith, length-take {A = Status})
