use Rattle.std.proofs.Common.{◌^◌, ◌<◌, length, ap, arith}
use Rattle.chart.specs.Decoded.{decode}
use Rattle.reaction.proofs.Reacting.{enough, reacts_no, reacts_yes}
use Rattle.reaction.proofs.react.react.Goals as goal

pub returns-then-unresolved-ne0 : goal.returns-then-unresolved-ne0
returns-then-unresolved-ne0 g c =
    let same = c.status_system-system.ensures in
    let layout = c.args.chart.now.layout in
    let small : c.in_ok-unresolved.unresolved < 2 ^ 64 = omega arith in
    let known = c.in_ok-unresolved.ensures in
    record {
      refused = λ l. absurd (omega (arith, c.resolve.auto.area, enough same layout small known));
      reacts = λ l. reacts_no same layout small known c.if-unresolved-ne0.true c.into.ensures;
    }

pub returns-in_err-fired : goal.returns-in_err-fired
returns-in_err-fired g c =
    let same = c.status_system-system.ensures in
    let small : c.in_ok-unresolved.unresolved < 2 ^ 64 = omega arith in
    let places = enough same c.args.chart.now.layout small c.in_ok-unresolved.ensures in
    let short = c.in_err-fired.ensures in
    let never : ⊥ = omega (arith, places, short.0, short.1, ap (λ b. length (decode b).signals) same.0) in
    absurd never

pub returns : goal.returns
returns g c =
    let same = c.status_system-system.ensures in
    let layout = c.args.chart.now.layout in
    let small : c.in_ok-unresolved.unresolved < 2 ^ 64 = omega arith in
    let known = c.in_ok-unresolved.ensures in
    record {
      refused = λ l. absurd (omega (arith, c.resolve.auto.area, enough same layout small known));
      reacts = λ l. reacts_yes same layout small known (record { fired = c.in_ok-fired.fired; after = c.next.result }) c.if-unresolved-ne0.false c.in_ok-fired.ensures c.next.ensures;
    }
