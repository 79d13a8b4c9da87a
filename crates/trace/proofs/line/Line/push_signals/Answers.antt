use Rattle.std.proofs.Common.{length, ap, sym, ◌∙◌, ◌++◌, arith}
use Rattle.std.specs.List.{flat_map, range_with_len}
use Rattle.std.proofs.lemmas.List.{length_push}
use Rattle.chart.proofs.Decoding.{few_signals}
use Rattle.trace.specs.Line.{chart_of, signal_text, values_of}
use Rattle.trace.proofs.Pieces.{number_written}
use Rattle.trace.proofs.Signals.{signal_turn, signals_end, signals_fit}
use Rattle.trace.proofs.line.Line.push_signals.Goals as goal

pub loop-s-init-derived : goal.loop-s-init-derived
loop-s-init-derived c =
    let counted = c.into_iter-s-iterator in
    ((tt, tt, signals_fit counted.result.count counted.result.iter (ap (λ e. e.count) counted.ensures.into_iter_gives ∙ c.enumerate-s-items.ensures.count)), tt)

pub push_signal-requires : goal.push_signal-requires
push_signal-requires c =
    let chart = c.args.self.now.chart in
    let few = few_signals chart.bytes.now chart.layout in
    let turn = signal_turn (chart_of c.args.self.now).signals c.into_iter-s-iterator.ensures.into_iter_gives c.enumerate-s-items.ensures.source c.enumerate-s-items.ensures.count c.all_signals.ensures
    c.loop-s.yielded c.loop-s.s-iterator c.loop-s.yielded_by c.next.result c.next.new.self (c.in-Some.s, c.in-Some.signal) c.in-Some.is c.next.ensures.steps in
    record { room = omega (arith, few, turn.0, c.loop-s.invariant.short, c.requires); signal = turn.2 }

pub loop-s-preserved : goal.loop-s-preserved
loop-s-preserved c =
    let turn = signal_turn (chart_of c.args.self.now).signals c.into_iter-s-iterator.ensures.into_iter_gives c.enumerate-s-items.ensures.source c.enumerate-s-items.ensures.count c.all_signals.ensures
    c.loop-s.yielded c.loop-s.s-iterator c.loop-s.yielded_by c.next.result c.next.new.self (c.in-Some.s, c.in-Some.signal) c.in-Some.is c.next.ensures.steps in
    let f = signal_text (chart_of c.args.self.now) c.args.self.now.statuses.now (values_of c.args.self.now) in
    let one_more = length_push c.loop-s.yielded (c.in-Some.s, c.in-Some.signal) in
    let written = c.push_signal.ensures.0 ∙ ap (λ n. c.loop-s.text.bytes ++ f n) turn.1 in
    let so_far = number_written c.args.text.now.bytes f (length c.loop-s.yielded) c.loop-s.invariant.bytes written in
    record {
      bytes = so_far ∙ ap (λ n. c.args.text.now.bytes ++ flat_map f (range_with_len 0 n)) (sym one_more);
      short = omega (arith, one_more, c.push_signal.ensures.1, c.loop-s.invariant.short);
    }

pub returns : goal.returns
returns c =
    let chart = c.args.self.now.chart in
    let few = few_signals chart.bytes.now chart.layout in
    let all = signals_end (chart_of c.args.self.now).signals c.into_iter-s-iterator.ensures.into_iter_gives c.enumerate-s-items.ensures.source c.enumerate-s-items.ensures.count c.all_signals.ensures
    c.loop-s.yielded c.loop-s.s-iterator c.loop-s.yielded_by c.next.result c.next.new.self c.in-None.is c.next.ensures.steps in
    let first = flat_map (signal_text (chart_of c.args.self.now) c.args.self.now.statuses.now (values_of c.args.self.now)) in
    (c.loop-s.invariant.bytes ∙ ap (λ n. c.args.text.now.bytes ++ first (range_with_len 0 n)) all, omega (arith, few, all, c.loop-s.invariant.short))
