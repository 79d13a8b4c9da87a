-- The And over the signals of a mask, by operations on words. Assumes nothing.
use Rattle.std.proofs.Common.{◌≡◌, ℕ, ◌-◌, ◌^◌, ◌<◌, not, ◌&&◌, ◌||◌, eqb, ◌++◌, map}
use lib.Bits.{bit_and}
use Rattle.bits.specs.Members.{every, members, some}
use Rattle.bits.proofs.Members.{every_append, every_map, every_set, some_append, some_map, some_set}
use Rattle.status.specs.Equations.{guarded}
use Rattle.status.specs.Status.{status, opposite}
use Rattle.status.specs.Words.{told}
use Rattle.status.specs.declared.equations.Words.{Words}

-- the guard by masks
pub guard_masks : (words : Words) (needed forbidden : ℕ) → words.present < 2 ^ 64 → words.absent < 2 ^ 64
    → status (eqb (bit_and needed (2 ^ 64 - 1 - words.present)) 0 && eqb (bit_and forbidden (2 ^ 64 - 1 - words.absent)) 0) (not (eqb (bit_and needed words.absent) 0) || not (eqb (bit_and forbidden words.present) 0))
    ≡ guarded (told words) needed forbidden
guard_masks words needed forbidden h l =
    let parts = map (told words) (members needed) ++ map (λ s. opposite (told words s)) (members forbidden) in
    let p : (eqb (bit_and needed (2 ^ 64 - 1 - words.present)) 0 && eqb (bit_and forbidden (2 ^ 64 - 1 - words.absent)) 0) ≡ every (λ a. a.present) parts =
    simp (every_append, every_map) (λ k. every_set needed words.present h k && every_set forbidden words.absent l k) in
    let a : (not (eqb (bit_and needed words.absent) 0) || not (eqb (bit_and forbidden words.present) 0)) ≡ some (λ a. a.absent) parts =
    simp (some_append, some_map) (λ k. some_set needed words.absent l k || some_set forbidden words.present h k) in
    λ k. status (p k) (a k)
