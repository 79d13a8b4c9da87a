use Rattle.std.proofs.Common.{◌≡◌, ◌+◌, ◌*◌, ◌≤◌, ◌++◌, length}
use Rattle.std.specs.List.{flat_map}
use Rattle.arrayvec.specs.ArrayString.{array_string_len}
use Rattle.trace.specs.Line.{space_held}
use Rattle.trace.proofs.line.Line.push_states.Given as goal

-- the states so far are written
abbrev pub invariant-loop-held : goal.invariant-loop-held
invariant-loop-held l = record {
  can : (goal.iterator-loop-held).can_next l.held-iterator;
  fin : (goal.iterator-loop-held).is_finite l.held-iterator;
  bytes : l.text.bytes ≡ l.initial.text.bytes ++ flat_map (λ r. space_held r.now) l.yielded;
  short : array_string_len l.text ≤ array_string_len l.initial.text + 4 * length l.yielded;
}
