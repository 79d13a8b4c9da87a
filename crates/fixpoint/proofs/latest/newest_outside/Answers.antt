use Rattle.std.proofs.Common.{◌≡◌, ℕ, Bool, true, false, cond, not, List, [], ◌∷◌, ◌++◌, reverse, Some, None, Option, refl, ap, sym, ◌∙◌, rules, tests}
use Rattle.std.specs.List.{find}
use Rattle.std.specs.Option.{option_map}
use Rattle.std.specs.Slice.Iter.{iter_rest}
use Rattle.std.specs.Iterator.Adapters.{copied_source, rev_source}
use Rattle.std.proofs.lemmas.List.{reverse-append}
use Rattle.std.proofs.lemmas.Iterator.Adapters.{YieldsList-from_rev_slice}
use Rattle.std.proofs.lemmas.Iterator.Consumers.{YieldsList-from_copied}
use Rattle.std.proofs.lemmas.Iterator.Search.{find_from_yields_List}
use Rattle.fixpoint.specs.Latest.{newest_outside, or_else}
use Rattle.fixpoint.proofs.latest.newest_outside.Goals as goal

-- the first of a list with one more at its end
find_push : (test : ℕ → Bool) (xs : List ℕ) (x : ℕ) → find test (xs ++ (x ∷ [])) ≡ or_else (find test xs) (cond (test x) (Some x) None)
find_push test [] x = refl
find_push test (y ∷ ys) x = elim (test y) as (λ b. cond b (Some y) (find test (ys ++ (x ∷ []))) ≡ or_else (cond b (Some y) (find test ys)) (cond (test x) (Some x) None)) [ true ↦ refl | false ↦ find_push test ys x ]

-- the newest outside a set is the first from the back that is not in it
newest_find : (p : ℕ → Bool) (xs : List ℕ) → find (λ i. not (p i)) (reverse xs) ≡ newest_outside p xs
newest_find p [] = refl
newest_find p (x ∷ xs) =
    let last : cond (not (p x)) (Some x) None ≡ cond (p x) None (Some x) = elim (p x) as (λ b. cond (not b) (Some x) None ≡ cond b None (Some x)) [ true ↦ refl | false ↦ refl ] in
    ap (find (λ i. not (p i))) (reverse-append (x ∷ []) xs) ∙ find_push (λ i. not (p i)) (reverse xs) x ∙ (λ k. or_else (newest_find p xs k) (last k))

-- what a call that changes nothing gives
same_option : (r : Option ℕ) → option_map (λ x. x) r ≡ r
same_option None = refl
same_option (Some x) = refl

pub returns : goal.returns
returns g c =
    let p = g.W.Worklist.waiting c.args.below.now in
    let xs = c.args.eight.now.items in
    let whole : iter_rest (rev_source (copied_source c.copied.result)) ≡ xs = cc in
    let back = YieldsList-from_copied {s = c.copied.result} (YieldsList-from_rev_slice xs whole) in
    sym (same_option c.find.result)
    ∙ find_from_yields_List (λ i. not (p i)) _ _ c.find.result c.find.ensures.ran back (λ x b q k. search (rules, tests))
    ∙ newest_find p xs
