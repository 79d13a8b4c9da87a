use Rattle.std.proofs.Common.{arith, sym, ap, ◌∙◌, length, rules}
use Rattle.std.proofs.lemmas.Option.{slice_get_within}
use Rattle.chart.specs.Decoded.{decode}
use Rattle.chart.proofs.Decoding.{left_from, none_left}
use Rattle.chart.proofs.records.RecordsIterator.next.Goals as goal

pub returns-in_err-record-clause-steps : goal.returns-in_err-record-clause-steps
returns-in_err-record-clause-steps g c =
    let s = c.args.self.now in
    let empty = none_left (g.R.Record.listed (decode s.chart.bytes.now)) s.next (sym c.record.ensures ∙ c.in_err-record.was) in
    simp c.from_residual.ensures (empty, empty)

pub overflow_add-self : goal.overflow_add-self
overflow_add-self g c =
    let s = c.args.self.now in
    let inside = slice_get_within (g.R.Record.listed (decode s.chart.bytes.now)) s.next c.in_ok-record.record (sym c.record.ensures ∙ c.in_ok-record.was) in
    let few = g.met.R.Record.few s.chart.bytes.now s.chart.layout in
    omega arith

pub returns-clause-steps : goal.returns-clause-steps
returns-clause-steps g c =
    let s = c.args.self.now in
    left_from (g.R.Record.listed (decode s.chart.bytes.now)) s.next c.in_ok-record.record (sym c.record.ensures ∙ c.in_ok-record.was)

pub returns-clause-goes : goal.returns-clause-goes
returns-clause-goes g c =
    let s = c.args.self.now in
    let steps = left_from (g.R.Record.listed (decode s.chart.bytes.now)) s.next c.in_ok-record.record (sym c.record.ensures ∙ c.in_ok-record.was) in
    search (rules, ap length steps)
