use Rattle.std.proofs.Common.{◌≡◌, ℕ, ◌+◌, ◌*◌, ◌<◌, Bool, List, not, eqb, take, drop, w64, ap, ◌∙◌, arith, rules, tests}
use Rattle.std.specs.Int.{from_be_bytes}
use Rattle.std.proofs.lemmas.Bool.Decides.{Decides-at}
use Rattle.std.proofs.lemmas.Iterator.{YieldsList-from_slice}
use Rattle.std.proofs.lemmas.Iterator.Search.{all_from_yields_List}
use Rattle.std.proofs.lemmas.List.{drop-drop, drop-take, take-take}
use Rattle.chart.specs.Check.{same_eight}
use Rattle.chart.specs.Places.{records_from}
use Rattle.chart.proofs.Below.{all_below_same, made_passes}
use Rattle.chart.proofs.SignalRules.{eight_decide, same_is}
use Rattle.chart.proofs.check.new_name.Goals as goal

pub returns : goal.returns
returns c =
    let bs = c.args.bytes.now in
    let at = 1 + 10 * c.args.i + 2 in
    let value : List ℕ → ℕ = from_be_bytes w64 in
    let test : List ℕ → Bool = λ r. not (eqb (value (take 8 (drop 2 r))) (value (take 8 (drop at bs)))) in
    let each : (k : ℕ) → k < c.args.i → test (take 10 (drop (1 + 10 * k) bs)) ≡ not (same_eight bs (1 + 10 * k + 2) at) = λ k l.
    let field = ap (take 8) (drop-take 2 8 (drop (1 + 10 * k) bs) ∙ ap (take 8) (drop-drop 2 (1 + 10 * k) bs)) ∙ take-take 8 8 (drop (1 + 10 * k + 2) bs) (omega arith) in
    ap not (same_is bs (1 + 10 * k + 2) at _ (omega arith) (omega arith)
    (Decides-at _ _ (λ j. eqb (value (field j)) (value (take 8 (drop at bs)))) (eight_decide bs (1 + 10 * k + 2) at (omega arith) (omega arith) (λ m. (c.type_inv.bytes m).fits)))) in
    all_from_yields_List test _ _ c.all.result c.all.ensures.ran
    (YieldsList-from_slice (records_from bs 10 1 c.args.i) (search rules)) (λ x b q k. search (rules, tests))
    ∙ made_passes test (λ k. take 10 (drop (1 + 10 * k) bs)) c.args.i
    ∙ all_below_same _ _ c.args.i each
