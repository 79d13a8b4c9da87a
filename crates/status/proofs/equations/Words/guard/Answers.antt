use Rattle.std.proofs.Common.{arith}
use Rattle.status.proofs.Masks.{guard_masks}
use Rattle.status.proofs.equations.Words.guard.Goals as goal

pub returns : goal.returns
returns c = guard_masks c.args.self c.args.t.now.needed c.args.t.now.forbidden (omega arith) (omega arith)
