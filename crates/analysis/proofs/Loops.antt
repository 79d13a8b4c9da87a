-- Chains over the transitions of a chart, in the words of the equations. Assumes nothing.
use Rattle.std.proofs.Common.{◌≡◌, Bool, ◌||◌, List, [], ◌∷◌, fold, sym, refl, ap, ◌∙◌}
use Rattle.std.specs.List.{list_any}
use Rattle.bits.proofs.Sets.{union_assoc, union_comm, union_none}
use Rattle.bits.specs.Members.{some}
use Rattle.bits.specs.Set.{none, only_if, union}
use Rattle.bits.specs.declared.set.NumberSet.{NumberSet as StateSet}
use Rattle.chart.specs.declared.transition.Transition.{Transition}
use Rattle.analysis.specs.Reach.{targets}

-- whether some element passes, in the library's words
pub some_is_any : {A : Type 0} (p : A → Bool) (xs : List A) → list_any p xs ≡ some p xs
some_is_any p [] = refl
some_is_any p (x ∷ xs) = ap (λ b. p x || b) (some_is_any p xs)

-- uniting the targets of those that pass with a set, one after the other
pub targets_folded : (p : Transition → Bool) (set : StateSet) (ts : List Transition) → fold (λ a t. union a (only_if (p t) t.target)) set ts ≡ union set (targets p ts)
unfolding targets
targets_folded p set [] = sym (union_comm set none ∙ union_none set)
targets_folded p set (t ∷ ts) = targets_folded p (union set (only_if (p t) t.target)) ts ∙ union_assoc set (only_if (p t) t.target) (targets p ts)
