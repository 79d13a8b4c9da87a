use Rattle.std.proofs.Common.{◌≡◌, ◌+◌, ◌*◌, ◌<◌, ◌≤◌, length, sym, subst, ⊎_elim, arith, rules}
use Rattle.std.proofs.lemmas.Bool.{cases_lt, ltb-false}
use Rattle.chart.specs.Check.{states_upto}
use Rattle.chart.specs.Places.{byte}
use Rattle.chart.proofs.Walk.{few_together, many_together, states_more, states_none}
use Rattle.chart.proofs.check.automata_within.Goals as goal

pub loop-k-init : goal.loop-k-init
loop-k-init c = (sym (states_none c.args.bytes.now (c.args.at + 1)), omega arith)

pub returns-in_default : goal.returns-in_default
returns-in_default c k l whole =
    let short : length c.args.bytes.now ≤ c.args.at + 1 + 4 * c.loop-k.k + 2 = ltb-false _ _ (sym c.in_default.ensures.lookup.0) in
    few_together c.args.bytes.now (c.args.at + 1) c.loop-k.k k (omega arith) (omega (arith, c.loop-k.invariant))

pub returns-then-together-gt64 : goal.returns-then-together-gt64
returns-then-together-gt64 c k l whole =
    let bs = c.args.bytes.now in
    let p = c.args.at + 1 in
    let read : c.in-Some.states.now ≡ byte bs (p + 4 * c.loop-k.k + 2) = search rules in
    let more : c.loop-k.together + c.from-together.result ≡ states_upto bs p (c.loop-k.k + 1) = omega (arith, c.loop-k.invariant, c.from-together.ensures, read, states_more bs p c.loop-k.k) in
    ⊎_elim
    (λ (h : k < c.loop-k.k). few_together bs p c.loop-k.k k h (omega (arith, c.loop-k.invariant)))
    (λ (h : c.loop-k.k ≤ k). many_together bs p c.loop-k.k k h (omega (arith, more)))
    (cases_lt k c.loop-k.k)

pub loop-k-preserved : goal.loop-k-preserved
loop-k-preserved c =
    let read : c.in-Some.states.now ≡ byte c.args.bytes.now (c.args.at + 1 + 4 * c.loop-k.k + 2) = search rules in
    (omega (arith, c.loop-k.invariant, c.from-together.ensures, read, states_more c.args.bytes.now (c.args.at + 1) c.loop-k.k), omega arith)

pub returns : goal.returns
returns c k l whole =
    let all : c.from-count.result ≡ byte c.args.bytes.now c.args.at = search rules in
    let end : c.loop-k.k ≡ c.from-count.result = omega arith in
    let few : states_upto c.args.bytes.now (c.args.at + 1) c.loop-k.k ≤ 64 = omega (arith, c.loop-k.invariant) in
    few_together c.args.bytes.now (c.args.at + 1) c.from-count.result k (omega (arith, all)) (subst (λ n. states_upto c.args.bytes.now (c.args.at + 1) n ≤ 64) end few)
