use Rattle.std.proofs.Common.{◌&&◌, sym, ◌∙◌, arith}
use Rattle.bits.proofs.Members.{every_set}
use Rattle.analysis.proofs.reached.Reached.possible.Goals as goal

pub returns-then-reached : goal.returns-then-reached
returns-then-reached c =
    let wanted = every_set c.args.t.needed c.args.self.now.signals (omega arith) in
    λ k. (sym c.if-reached.true ∙ c.reached.ensures) k && wanted k
