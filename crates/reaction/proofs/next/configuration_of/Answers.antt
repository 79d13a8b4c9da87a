use Rattle.std.proofs.Common.{get_or, None, sym, ◌∙◌, rules}
use Rattle.reaction.specs.Next.{state_of}
use Rattle.reaction.specs.declared.next.Outcome.TheVariants.{Gone}
use Rattle.reaction.proofs.Settling.{array_of, padded_places}
use Rattle.reaction.proofs.next.configuration_of.Goals as goal

-- the call is named c too, so that the search reads nothing else
pub returns : goal.returns
returns c =
    array_of _ _ (λ k. state_of (get_or c.args.outcomes.now k Gone)) 32 c.from_fn.result c.from_fn.ensures.items (λ k y q c. search rules) None ∙ sym (padded_places c.args.outcomes.now c.requires)
