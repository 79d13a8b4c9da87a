use Rattle.std.proofs.Common.{◌∙◌, ap, get_or, rules, arith}
use Rattle.bits.specs.Set.{has, none}
use Rattle.analysis.proofs.Reading.{read_has}
use Rattle.analysis.proofs.reached.Reached.reached.Goals as goal

pub returns : goal.returns
returns c =
    let sets = c.args.self.now.sets.now in
    let place = c.get.ensures.lookup.4 (omega arith) none ∙ ap (λ k. get_or sets k none) c.from.ensures in
    read_has (λ x. x.now) c.get.result c.args.state c.is_some_and.ensures (λ x k. search rules) ∙ ap (λ a. has a c.args.state) place
