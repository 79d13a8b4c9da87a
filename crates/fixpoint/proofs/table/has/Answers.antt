use Rattle.std.proofs.Common.{◌||◌, eqb, refl, ◌∙◌, rules, tests}
use Rattle.std.specs.List.{list_any}
use Rattle.std.proofs.lemmas.Iterator.{YieldsList-from_slice}
use Rattle.std.proofs.lemmas.Iterator.Search.{any_from_yields_List}
use Rattle.std.proofs.lemmas.List.Recursion.{same_from_clauses}
use Rattle.fixpoint.specs.Numbers.{has}
use Rattle.fixpoint.proofs.table.has.Goals as goal

pub returns : goal.returns
returns c =
    let i = c.args.i in
    let xs = c.args.table.now.items in
    any_from_yields_List (eqb i) _ _ c.any.result c.any.ensures.ran (YieldsList-from_slice xs cc) (λ x b q k. search (rules, tests))
    ∙ same_from_clauses (list_any (eqb i)) (has i) (λ x b. eqb i x || b) refl (λ _ _. refl) (λ _ _. refl) xs
