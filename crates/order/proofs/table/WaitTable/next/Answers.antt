use Rattle.std.proofs.Common.{length, sym, ap, subst, arith}
use Rattle.order.specs.Picking.{Picked}
use Rattle.order.proofs.Tables.{picks}
use Rattle.order.proofs.table.WaitTable.next.Goals as goal

pub returns : goal.returns
returns c =
    subst (λ t. Picked t c.args.done.now c.free_row.result) c.self.view_is
    (picks c.self.inside.rows.items c.args.done.now (omega (arith, c.deref.ensures.1, ap length c.deref.ensures.0)) c.self.invariant c.free_row.result (rw (sym c.deref.ensures.0) c.free_row.ensures))
