-- Statuses: what is shown of a signal, and Not, And and Or of it. Assumes nothing.
use Rattle.std.specs.Prelude.{ℕ, ◌+◌, Bool, false, cond, not, ◌&&◌, ◌||◌, List, map}
use Rattle.bits.specs.Members.{every, some}
use Rattle.status.specs.declared.status.Status.{Status}

-- a status with these two marks: shown present, shown absent
abbrev pub status : Bool → Bool → Status
status p a = record { present = p; absent = a }

abbrev pub unknown : Status
unknown = status false false

-- a signal that is present, and one that is absent
abbrev pub shown : Bool → Status
shown b = status b (not b)

-- Not swaps the marks
abbrev pub opposite : Status → Status
opposite a = status a.absent a.present

-- And of two: shown present if both are, shown absent if one is
abbrev pub both : Status → Status → Status
both a b = status (a.present && b.present) (a.absent || b.absent)

-- Or of two: shown present if one is, shown absent if both are
abbrev pub either : Status → Status → Status
either a b = status (a.present || b.present) (a.absent && b.absent)

-- the marks of both
abbrev pub united : Status → Status → Status
united a b = status (a.present || b.present) (a.absent || b.absent)

-- how many marks there are
abbrev pub marks : Status → ℕ
marks a = cond a.present 1 0 + cond a.absent 1 0

-- And is shown present if all its parts are, and shown absent if one is
abbrev pub all : List Status → Status
all parts = status (every (λ a. a.present) parts) (some (λ a. a.absent) parts)

-- Or is the Not of the And of its parts' Nots
abbrev pub any : List Status → Status
any parts = opposite (all (map opposite parts))
