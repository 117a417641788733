use Rattle.std.proofs.Common.{◌≡◌, map, take}
use Rattle.layout.specs.Layout.{equation_in}
use Rattle.rules.specs.Views.{node_of}
use Rattle.order.specs.Waiting.{waits_on}
use Rattle.order.proofs.table.row_of.Given as goal

abbrev pub invariant-loop-on : goal.invariant-loop-on
invariant-loop-on l = l.row.items ≡ map (waits_on (node_of l.view) (equation_in l.view.cells.now l.equation)) (take l.on-index (node_of l.view).equations)
