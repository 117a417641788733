use Rattle.std.proofs.Common.{◌≡◌, length}
use Rattle.order.proofs.Picks.{Picking}
use Rattle.order.proofs.table.WaitTable.order.Given as goal

abbrev pub invariant-loop : goal.invariant-loop
invariant-loop l = (length l.order.items ≡ l.counter) × (length l.done ≡ 23) × Picking l.self l.order.items l.done
