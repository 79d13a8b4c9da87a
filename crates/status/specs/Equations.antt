-- The equations of one instant, over the decoded chart. Assumes nothing.
use Rattle.std.specs.Prelude.{ℕ, Bool, false, cond, not, ◌&&◌, ◌||◌, List, [], ◌∷◌, ◌++◌, map, length, take, filter, Option, ◌==◌, nat_le, nat_lt, slice_index_or}
use Rattle.bits.specs.Bits.{bit}
use Rattle.bits.specs.Members.{members, some}
use Rattle.fixpoint.specs.System.{Equations}
use Rattle.chart.specs.Decoded.{Decoded, input}
use Rattle.chart.specs.declared.transition.Transition.{Transition}
use Rattle.status.specs.Configuration.{holds}
use Rattle.status.specs.Status.{unknown, shown, opposite, united, marks, all, any}
use Rattle.status.specs.declared.status.Status.{Status}

-- a transition is live if its automaton holds its source
abbrev pub live : List (Option ℕ) → Transition → Bool
live states t = holds states t.automaton t.source

-- the And of the needed statuses and the Not of each forbidden one
abbrev pub guarded : (ℕ → Status) → ℕ → ℕ → Status
guarded u needed forbidden = all (map u (members needed) ++ map (λ s. opposite (u s)) (members forbidden))

-- the guard of a transition
abbrev pub guard : (ℕ → Status) → Transition → Status
guard u t = guarded u t.needed t.forbidden

-- the live transitions of an automaton
abbrev pub rivals : List (Option ℕ) → ℕ → List Transition → List Transition
rivals states automaton ts = filter (λ e. live states e && e.automaton == automaton) ts

-- the firing of a transition, present if it fired, where `earlier` stand before it in the file:
-- the And of its guard and the Not of each guard of its automaton's live transitions among them
abbrev pub firing : List (Option ℕ) → (ℕ → Status) → List Transition → Transition → Status
firing states u earlier t = all (guard u t ∷ map (λ e. opposite (guard u e)) (rivals states t.automaton earlier))

-- a live transition that emits signal s
abbrev pub emits : List (Option ℕ) → ℕ → Transition → Bool
emits states s t = live states t && bit t.emitted s

-- the firings of the live transitions that emit signal s, among those that stand after `earlier`
unfoldable pub firings : List (Option ℕ) → (ℕ → Status) → ℕ → List Transition → List Transition → List Status
firings states u s earlier [] = []
firings states u s earlier (t ∷ later) = cond (emits states s t)
    (firing states u earlier t ∷ firings states u s (earlier ++ (t ∷ [])) later)
    (firings states u s (earlier ++ (t ∷ [])) later)

-- the equation of signal s: an input is present if its bit is in the mask, and otherwise absent;
-- any other signal is the Or of the firings of the live transitions that emit it
abbrev pub status_of : Decoded → List (Option ℕ) → ℕ → (ℕ → Status) → ℕ → Status
status_of c states mask u s = cond (input c s) (shown (bit mask s)) (any (firings states u s [] c.transitions))

-- what an assignment says of signal s; only the first n places count
abbrev pub assigned : ℕ → List Status → ℕ → Status
assigned n xs s = slice_index_or (take n xs) s unknown

-- whether a transition's guard mentions signal j
abbrev pub mentions : ℕ → Transition → Bool
mentions j t = bit t.needed j || bit t.forbidden j

-- whether a firing depends on signal j: its guard mentions it, or the guard of an earlier rival does
abbrev pub bears : List (Option ℕ) → ℕ → List Transition → Transition → Bool
bears states j earlier t = mentions j t || some (mentions j) (rivals states t.automaton earlier)

-- whether one of the firings that make up signal s depends on signal j
unfoldable pub hears : List (Option ℕ) → ℕ → ℕ → List Transition → List Transition → Bool
hears states s j earlier [] = false
hears states s j earlier (t ∷ later) = (emits states s t && bears states j earlier t) || hears states s j (earlier ++ (t ∷ [])) later

-- the status system: one unknown for each signal
abbrev pub status_equations : Decoded → List (Option ℕ) → ℕ → Equations Status
status_equations c states mask = record {
  bottom = unknown;
  join = united;
  rank = marks;
  height = 2;
  count = length c.signals;
  evaluate = λ i xs. cond (nat_lt i (length c.signals) && nat_le (length c.signals) (length xs)) (status_of c states mask (assigned (length c.signals) xs) i) unknown;
  reads = λ i j. (nat_lt i (length c.signals) && nat_lt j (length c.signals)) && (not (input c i) && hears states i j [] c.transitions);
}
