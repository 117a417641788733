-- What kinds and clocks ask of the results and arguments of a call.
use Rattle.std.specs.Prelude.{ℕ, ◌+◌, Bool, List, nat_eq}
use Rattle.syntax.specs.Syntax.{Expression, NodeSyntax}
use Rattle.rules.specs.Clocks.{on_clock, clock_of}
use Rattle.std.specs.List.{list_all}
use Rattle.rules.specs.Every.{every_from}
use Rattle.rules.specs.Kinds.{same_kind, of_kind, kind_of}
use Rattle.rules.specs.Names.{flow_kind, flow_clock}
use Rattle.rules.specs.Trees.{tree_of}

-- results have, in order, the kinds of the callee's outputs
abbrev pub results_kinded : NodeSyntax → NodeSyntax → List ℕ → Bool
results_kinded n callee rs = every_from (λ i r. same_kind (flow_kind n r) (flow_kind callee (callee.inputs + i))) 0 rs

-- arguments have, in order, the kinds of the callee's inputs
abbrev pub arguments_kinded : NodeSyntax → NodeSyntax → List Expression → Bool
arguments_kinded n callee es = every_from (λ i e. of_kind (kind_of n (tree_of e)) (flow_kind callee i)) 0 es

-- results are on a clock
abbrev pub results_on : NodeSyntax → ℕ → List ℕ → Bool
results_on n k rs = list_all (λ r. nat_eq (flow_clock n r) k) rs

-- arguments are on a clock
abbrev pub arguments_on : NodeSyntax → ℕ → List Expression → Bool
arguments_on n k es = list_all (λ e. on_clock (clock_of n (tree_of e)) k) es
