use Rattle.std.proofs.Common.{true, refl, ap, ◌+◌, ◌∙◌, arith, rules, length-set}
use Rattle.std.proofs.lemmas.List.{length_push}
use Rattle.order.proofs.Picks.{picking_none, picking_more, picking_stuck, picking_all}
use Rattle.order.proofs.table.WaitTable.order.Goals as goal

pub loop-init : goal.loop-init
loop-init c = rw c.new-order.ensures (refl, refl, picking_none c.args.self.now 23 (omega arith))

pub overflow_cast-x : goal.overflow_cast-x
overflow_cast-x c = let x = c.in_ok-x.ensures.0 in search rules

pub bounds-done-x : goal.bounds-done-x
bounds-done-x c = omega (arith, c.in_ok-x.ensures.0)

pub loop-preserved : goal.loop-preserved
loop-preserved c =
    let p = c.in_ok-x.ensures in
    let i = c.loop.invariant in
    rw c.push.ensures (
      length_push c.loop.order.items c.in_ok-x.x ∙ ap (λ k. k + 1) i.0,
      length-set c.loop.done c.in_ok-x.x true ∙ i.1,
      picking_more _ _ _ i.2 (omega (arith, i.1)) c.in_ok-x.x p.0 p.1 p.2,
    )

pub returns-in_err-x : goal.returns-in_err-x
returns-in_err-x c =
    let i = c.loop.invariant in
    rw c.from_residual.ensures (picking_stuck _ _ _ i.2 (omega (arith, i.1)) (omega (arith, i.0)) c.in_err-x.ensures)

pub returns : goal.returns
returns c = let i = c.loop.invariant in picking_all _ _ _ i.2 (omega (arith, i.1)) (omega (arith, i.0))
