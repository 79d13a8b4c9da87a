use Rattle.std.proofs.Common.{◌≡◌, ◌+◌, ◌*◌, ◌≤◌, ◌++◌, length}
use Rattle.std.specs.List.{range_with_len, flat_map}
use Rattle.arrayvec.specs.ArrayString.{array_string_len}
use Rattle.trace.specs.Line.{chart_of, signal_text, values_of}
use Rattle.trace.proofs.line.Line.push_signals.Given as goal

-- the signals so far are written
abbrev pub invariant-loop-s : goal.invariant-loop-s
invariant-loop-s l = record {
  bytes : l.text.bytes ≡ l.initial.text.bytes ++ flat_map (signal_text (chart_of l.self) l.self.statuses.now (values_of l.self)) (range_with_len 0 (length l.yielded));
  short : array_string_len l.text ≤ array_string_len l.initial.text + 20 * length l.yielded;
}
