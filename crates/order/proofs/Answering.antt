-- From a node's rows to its equations.
use Rattle.std.proofs.Common.{ℕ, Some, None, Option}
use Rattle.layout.specs.Vectors.{Items}
use Rattle.syntax.specs.Syntax.{NodeSyntax}
use Rattle.order.specs.Table.{wait_rows}
use Rattle.order.specs.Picking.{Settled}
use Rattle.order.specs.Answers.{OrderAnswer}
use Rattle.order.proofs.Rounds.{flow_round, sorted_no_cycle, sorted_order}

-- a settled table orders the equations, or shows a flow that rests on itself
pub answers : (n : NodeSyntax) (r : Option (Items ℕ)) → Settled (wait_rows n) r → OrderAnswer n r
answers n (Some order) s = (sorted_order n order.items s, sorted_no_cycle n order.items s)
answers n None s = flow_round n s.0 s.1
