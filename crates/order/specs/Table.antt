-- The table of which equations of a node wait on which.
use Rattle.std.specs.Prelude.{Bool, List, map}
use Rattle.syntax.specs.Syntax.{NodeSyntax}
use Rattle.order.specs.Waiting.{waits_on}

-- for each equation a row, with a mark for each: whether it waits on that
abbrev pub wait_rows : NodeSyntax → List (List Bool)
wait_rows n = map (λ e. map (waits_on n e) n.equations) n.equations
