use Rattle.std.proofs.Common.{◌≡◌, length, get_or, refl, ap, ◌∙◌, arith}
use Rattle.bits.specs.Bits.{bit}
use Rattle.status.specs.Status.{status, unknown}
use Rattle.status.proofs.Reading.{all_read, none_yet, one_more}
use Rattle.status.proofs.equations.Words.gather.Goals as goal

pub loop-s-init : goal.loop-s-init
loop-s-init c j = (
  ap (λ w. bit w j) c.default-words.ensures.0 ∙ none_yet (λ k. (get_or c.args.area.now k unknown).present) j,
  ap (λ w. bit w j) c.default-words.ensures.1 ∙ none_yet (λ k. (get_or c.args.area.now k unknown).absent) j,
)

pub loop-s-preserved : goal.loop-s-preserved
loop-s-preserved c j =
    let xs = c.args.area.now in
    let s = c.loop-s.s in
    let before = c.loop-s.invariant j in (
      one_more (λ k. (get_or xs k unknown).present) _ _ (get_or xs s unknown).present s j refl before.0 (c.marked.ensures j),
      one_more (λ k. (get_or xs k unknown).absent) _ _ (get_or xs s unknown).absent s j refl before.1 (c.marked-in-loop-s.ensures j),
    )

pub returns : goal.returns
returns c j =
    let xs = c.args.area.now in
    let marks = c.loop-s.invariant j in
    let all : c.loop-s.s ≡ length xs = omega arith in
    λ i. status
    ((marks.0 ∙ all_read (λ a. a.present) unknown xs c.loop-s.s j refl all) i)
    ((marks.1 ∙ all_read (λ a. a.absent) unknown xs c.loop-s.s j refl all) i)
