use Rattle.std.proofs.Common.{◌≡◌, ◌<◌, get_or, sym, ap, ◌∙◌, arith}
use Rattle.std.proofs.lemmas.List.{get_or_default, get_or-take, length-take}
use Rattle.orders.specs.Plan.{door, reached}
use Rattle.orders.specs.Rooms.{has, none, union}
use Rattle.orders.proofs.Reaching.{reached_yes, reached_no}
use Rattle.orders.proofs.plan.PlanSystem.evaluate.Goals as goal
use Rattle.orders.proofs.plan.PlanSystem.evaluate.Goals.{then-has_room, else-has_room}

pub loop-j-init : goal.loop-j-init
unfolding reached
loop-j-init c = c.only_room-all.ensures

pub loop-j-preserved : goal.loop-j-preserved
loop-j-preserved c =
    let doors = c.args.self.now.doors in
    let area = c.args.area.now in
    let i = c.args.i in
    let j = c.loop-j.j in
    let inside : j < 12 = omega (arith, length-take 12 area) in
    let known : door doors i j ≡ c.has_room.result =
    ap (λ a. has a j) (get_or_default doors i none c.index-self-i.result (omega arith)) ∙ sym c.has_room.ensures in
    elim c.if-has_room.branch [
      | then-has_room w ↦
          let item = c.rooms-item.result in
          let read : item ≡ get_or area j none = c.rooms-item.is ∙ get_or-take 12 area j item inside ∙ get_or_default area j item none (omega arith) in
          w.all-is ∙ w.united-all.ensures ∙ (λ k. union (c.loop-j.invariant k) (read k)) ∙ sym (reached_yes doors i area j (known ∙ w.if-has_room.true))
      | else-has_room w ↦ w.all-is ∙ c.loop-j.invariant ∙ sym (reached_no doors i area j (known ∙ w.if-has_room.false))
    ]
