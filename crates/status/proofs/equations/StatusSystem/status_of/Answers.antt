use Rattle.std.proofs.Common.{◌≡◌, ℕ, false, [], ◌∷◌, filter, fold, take, sym, refl, ap, ◌∙◌, of_calls, rules}
use borrow.Author.Tests.{tests}
use Rattle.std.specs.List.{enumerate_from}
use Rattle.std.proofs.lemmas.Bool.{cond-false}
use Rattle.std.proofs.lemmas.Iterator.Consumers.{YieldsList-at, YieldsList-from_filter}
use Rattle.chart.specs.Decoded.{input}
use Rattle.chart.specs.declared.transition.Transition.{Transition}
use Rattle.status.specs.Equations.{emits, firing}
use Rattle.status.specs.Status.{any, either, shown}
use Rattle.status.specs.StatusSystem.{chart_of, states_of}
use Rattle.status.specs.Words.{told}
use Rattle.status.specs.declared.status.Status.{Status}
use Rattle.chart.proofs.Chains.{count_fits, items_of_run, over_numbered}
use Rattle.status.proofs.Parts.{any_folded, firings_numbered}
use Rattle.status.proofs.equations.StatusSystem.status_of.Goals as goal

pub fold-requires-clause-can : goal.fold-requires-clause-can
fold-requires-clause-can c =
    ((tt, tt, count_fits c.filter.result.iter.count c.filter.result.iter.iter (ap (λ e. e.count) c.filter.ensures.source ∙ c.enumerate.ensures.count)), tt, search of_calls)

pub returns : goal.returns
returns c =
    let self = c.args.self.now in
    let states = states_of self in
    let u = told c.args.words in
    let ts = (chart_of self).transitions in
    let no : input (chart_of self) c.args.s ≡ false = sym c.is_input.ensures ∙ c.if-is_input.false in
    let fires : ℕ × Transition → Status = λ p. firing states u (take p.0 ts) p.1 in
    let turn : Status → ℕ × Transition → Status = λ a p. either a (fires p) in
    let numbered = over_numbered ts c.enumerate.ensures.source c.enumerate.ensures.count c.all_transitions.ensures in
    let run = c.fold.ensures.runs in
    let emitting = items_of_run run.0 run.1 run.2
    (YieldsList-from_filter _ (λ p. emits states c.args.s p.1) (YieldsList-at c.filter.ensures.source numbered) c.filter.ensures.closure (λ x b q k. search (rules, tests))) in
    run.3 turn (λ a p r f k. search (rules, tests))
    ∙ (λ i. fold turn (c.from-2.ensures i) (emitting i))
    ∙ any_folded fires (shown false) (filter (λ p. emits states c.args.s p.1) (enumerate_from 0 ts))
    ∙ ap (λ xs. any (shown false ∷ xs)) (firings_numbered states c.args.s ts u [] ts 0 refl refl)
    ∙ sym (cond-false (input (chart_of self) c.args.s) _ _ no)
