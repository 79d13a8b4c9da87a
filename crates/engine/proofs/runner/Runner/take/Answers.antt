use Rattle.std.proofs.Common.{length, refl, arith}
use Rattle.std.proofs.lemmas.Result.{err_from_is_err_and}
use Rattle.status.proofs.Resolving.{not_refused}
use Rattle.engine.specs.Runner.{rules}
use Rattle.engine.proofs.Pasts.{counted, ready}
use Rattle.engine.proofs.Taking.{takes_long, takes_others, takes_stopped, takes_written}
use Rattle.engine.proofs.runner.Runner.take.Goals as goal

pub returns-then-others-ne0 : goal.returns-then-others-ne0
returns-then-others-ne0 g c = takes_others refl c.other_bits-others.result c.other_bits-others.ensures c.if-others-ne0.true

pub overflow_add-told : goal.overflow_add-told
overflow_add-told g c = omega (arith, counted c.args.self.now)

pub returns-in_err-step : goal.returns-in_err-step
returns-in_err-step g c =
    let ok = ready c.args.self.now c.args.mask _ (omega arith) c.other_bits-others.ensures c.if-others-ne0.false c.if-self-eq1000000.false in
    let p = err_from_is_err_and c.from_residual.result c.from_residual.ensures.1 in
    rw (p.1, p.2) (takes_stopped ok.0 ok.1 c.in_err-step.ensures.refused c.in_err-step.ensures.reacts)

pub returns-in_err-length : goal.returns-in_err-length
returns-in_err-length g c =
    let r = c.args.self.now in
    let ok = ready r c.args.mask _ (omega arith) c.other_bits-others.ensures c.if-others-ne0.false c.if-self-eq1000000.false in
    let places = not_refused _ _ (length c.args.area.now) (length (rules r).signals) (λ l. (c.in_ok-step.ensures.refused l).0) in
    let p = err_from_is_err_and c.from_residual-in_err-length.result c.from_residual-in_err-length.ensures.1 in
    rw (p.1, p.2)
    (takes_long (ok.0, ok.1, places) (c.in_ok-step.ensures.reacts places) _ refl c.in_err-length.field-0.0 c.in_err-length.ensures.answer c.in_err-length.ensures.after)

pub returns : goal.returns
returns g c =
    let r = c.args.self.now in
    let ok = ready r c.args.mask _ (omega arith) c.other_bits-others.ensures c.if-others-ne0.false c.if-self-eq1000000.false in
    let places = not_refused _ _ (length c.args.area.now) (length (rules r).signals) (λ l. (c.in_ok-step.ensures.refused l).0) in
    takes_written (ok.0, ok.1, places) (c.in_ok-step.ensures.reacts places) _ refl c.in_ok-length.length c.in_ok-length.ensures.answer c.in_ok-length.ensures.after
