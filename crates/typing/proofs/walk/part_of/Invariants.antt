use Rattle.rules.specs.Views.{node_of}
use Rattle.typing.specs.Waiting.{waiting_in}
use Rattle.typing.proofs.Runs.{Running}
use Rattle.typing.proofs.walk.part_of.Given as goal

abbrev pub invariant-loop-cell : goal.invariant-loop-cell
invariant-loop-cell l = Running (node_of l.node) l.cells l.cell-index (waiting_in l.waiting)
