use Rattle.std.proofs.Common.{◌≡◌, eqb, take, drop, ap, sym, ◌∙◌, arith, rules, tests}
use Rattle.std.specs.List.{prefix_len}
use Rattle.std.proofs.lemmas.Iterator.{YieldsList-from_slice}
use Rattle.std.proofs.lemmas.Iterator.Consumers.{count_from_yields_List}
use Rattle.std.proofs.lemmas.Iterator.Search.{YieldsList-from_take_while, all_from_yields_List}
use Rattle.std.proofs.lemmas.List.{length-take-le, take_rest}
use Rattle.std.proofs.lemmas.List.Sums.{prefix_len-le-length}
use Rattle.chart.specs.Check.{is_letter}
use Rattle.chart.proofs.Walk.{eight_bytes, tidy_by}
use Rattle.chart.proofs.check.tidy_name.Goals as goal

pub returns : goal.returns
returns c =
    let bs = c.args.bytes.now in
    let xs = take 8 (drop c.args.at bs) in
    let field = eight_bytes bs c.args.at in
    let long : c.count-letters.result ≡ prefix_len is_letter xs =
    count_from_yields_List _ c.count-letters.result c.count-letters.ensures.ran
    (YieldsList-from_take_while _ is_letter
    (YieldsList-from_slice _ (ap (λ i. i.rest.now) c.take_while.ensures.source ∙ c.iter.ensures.rest ∙ field))
    c.take_while.ensures.closure c.take_while.ensures.done (λ x b q k. search (rules, tests)))
    ∙ length-take-le (prefix_len is_letter xs) xs (prefix_len-le-length is_letter xs) in
    all_from_yields_List (λ b. eqb b 0) _ _ c.all.result c.all.ensures.ran
    (YieldsList-from_slice _ (c.iter-2.ensures.rest ∙ take_rest _ c.count-letters.result ∙ (λ i. drop (long i) (field i))))
    (λ x b q k. search (rules, tests))
    ∙ sym (tidy_by bs 8 c.args.at (omega arith))
