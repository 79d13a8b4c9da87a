use Rattle.std.proofs.Common.{arith}
use Rattle.engine.proofs.Publishing.{takes_aside, took}
use Rattle.engine.proofs.publish.make.Goals as goal

pub returns-in-Instant-clause-worked : goal.returns-in-Instant-clause-worked
returns-in-Instant-clause-worked g c = rw c.in-Instant.is (took (omega arith) c.instant.ensures.takes)

pub returns-in-Instant-clause-makes : goal.returns-in-Instant-clause-makes
returns-in-Instant-clause-makes g c = rw c.in-Instant.is (takes_aside c.instant.ensures.takes)
