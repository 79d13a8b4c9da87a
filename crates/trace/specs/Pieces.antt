-- What writing a piece of a line asks and does. Assumes nothing.
use Rattle.std.specs.Prelude.{◌≡◌, ℕ, ◌+◌, ◌≤◌, List, ◌++◌}
use Rattle.arrayvec.specs.ArrayString.{ArrayString, array_string_len}
use Rattle.trace.specs.declared.line.TheConstants.{LONGEST}

-- there is room for n bytes more
abbrev pub Room : ℕ → ArrayString → Type 0
Room n text = array_string_len text + n ≤ LONGEST

-- a piece is appended, of at most n bytes
abbrev pub Appends : List ℕ → ℕ → ArrayString → ArrayString → Type 0
Appends piece n before after = (after.bytes ≡ before.bytes ++ piece) × (array_string_len after ≤ array_string_len before + n)
