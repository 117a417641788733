use Rattle.std.proofs.Common.{◌≡◌, map, take}
use Rattle.rules.specs.Views.{node_of}
use Rattle.order.specs.Waiting.{waits_on}
use Rattle.order.proofs.table.WaitTable.of.Given as goal

abbrev pub invariant-loop-equation : goal.invariant-loop-equation
invariant-loop-equation l = map (λ row. row.items) l.rows.items ≡ map (λ e. map (waits_on (node_of l.view) e) (node_of l.view).equations) (take l.equation-index (node_of l.view).equations)
