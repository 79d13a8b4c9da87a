-- The worked cases are right: one computed test over all rows, and what it says at each. Assumes nothing.
use Rattle.std.proofs.Common.{◌≡◌, ℕ, List, map, Some, Ok, Result, sym, refl, ap, ◌∙◌}
use Rattle.std.specs.Fmt.{digits}
use Rattle.std.specs.List.{slice_get}
use Rattle.std.specs.Option.{option_map}
use Rattle.std.proofs.lemmas.Option.{slice_get-map}
use Rattle.bits.specs.Bits.{bit}
use Rattle.bits.specs.Members.{members}
use Rattle.fixpoint.specs.System.{rounds}
use Rattle.chart.proofs.Accepts.{layout_from, verdict_ok}
use Rattle.chart.specs.Check.{all_below, records, states_upto, tidy, verdict, zeros}
use Rattle.chart.specs.Decoded.{decode}
use Rattle.chart.specs.declared.fault.ChartFault.{ChartFault}
use Rattle.status.specs.Equations.{firings, hears}
use Rattle.trace.specs.Line.{line_of}
use Rattle.engine.specs.Answer.{not_inputs}
use Rattle.engine.specs.Cases.{Right, Row, Said, first_said, rows}

-- what two functions give alike over a list, they give alike at each element
same_each : {A B : Type 0} (f g : A → B) (xs : List A) → map f xs ≡ map g xs → (k : ℕ) (x : A) → slice_get xs k ≡ Some x → f x ≡ g x
same_each f g xs e k x at =
    let same : option_map f (Some x) ≡ option_map g (Some x) =
    ap (option_map f) (sym at) ∙ sym (slice_get-map f xs k) ∙ ap (λ zs. slice_get zs k) e ∙ slice_get-map g xs k ∙ ap (option_map g) at in
    cc

-- what the check of the file and the instant answer, and what they should
abbrev tested : Row → Result (Unit {0}) ChartFault × Said
tested row = (verdict row.file, first_said row)

abbrev wanted : Row → Result (Unit {0}) ChartFault × Said
wanted row = (Ok tt, row.answer)

-- the test, computed over the whole table
table_agrees : map tested rows ≡ map wanted rows
unfolding records tidy zeros all_below states_upto decode rounds bit members firings hears line_of not_inputs digits
table_agrees = refl

-- each row is right
pub all_right : (k : ℕ) (row : Row) → slice_get rows k ≡ Some row → Right row
all_right k row at =
    let same : tested row ≡ wanted row = same_each tested wanted rows table_agrees k row at in
    (layout_from row.file (verdict_ok row.file (ap (λ p. p.0) same)), ap (λ p. p.1) same)
