use Rattle.chart.proofs.view.view.Goals as goal

pub invariant_of-result : goal.invariant_of-result
invariant_of-result c = record { ends = c.requires.ends; layout = ∣ c.requires ∣₁ }
