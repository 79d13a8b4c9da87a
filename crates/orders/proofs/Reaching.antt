-- One room more behind the doors. Assumes nothing.
use Rattle.std.proofs.Common.{◌≡◌, ℕ, ◌+◌, true, false, List, get_or, ap, ◌∙◌, add-one}
use Rattle.std.proofs.lemmas.Bool.{cond-true, cond-false}
use Rattle.orders.specs.Plan.{door, reached}
use Rattle.orders.specs.Rooms.{none, union}
use Rattle.orders.specs.declared.rooms.RoomSet.{RoomSet}

module _ (doors : List RoomSet) (i : ℕ) (xs : List RoomSet) (j : ℕ) where
  pub reached_yes : door doors i j ≡ true → reached doors i xs (j + 1) ≡ union (reached doors i xs j) (get_or xs j none)
  unfolding reached
  reached_yes d = ap (reached doors i xs) (add-one j) ∙ cond-true (door doors i j) (union (reached doors i xs j) (get_or xs j none)) (reached doors i xs j) d

  pub reached_no : door doors i j ≡ false → reached doors i xs (j + 1) ≡ reached doors i xs j
  unfolding reached
  reached_no d = ap (reached doors i xs) (add-one j) ∙ cond-false (door doors i j) (union (reached doors i xs j) (get_or xs j none)) (reached doors i xs j) d
