-- Parts of what is asked of calls.
use Rattle.std.specs.Prelude.{ℕ, Bool, ◌&&◌, List, length, ◌==◌}
use Rattle.syntax.specs.Syntax.{Expression, NodeSyntax}
use Rattle.std.specs.List.{list_all}
use Rattle.rules.specs.Fit.{is_flow, expression_fits}

-- results and arguments of a call of node m in node n are as many as m's outputs and inputs, and name flows of n
abbrev pub call_fits : NodeSyntax → NodeSyntax → List ℕ → List Expression → Bool
call_fits m n rs es =
    (length rs == m.outputs) && (length es == m.inputs && (list_all (is_flow n) rs && list_all (expression_fits n) es))
