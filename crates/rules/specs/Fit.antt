-- Numbers and counts that fit the block.
use Rattle.std.specs.Prelude.{ℕ, Bool, ◌&&◌, length, ◌==◌, nat_le, nat_lt}
use Rattle.syntax.specs.declared.header.DerivedClock.{DerivedClock}
use Rattle.syntax.specs.declared.header.Flow as flow
use Rattle.syntax.specs.Syntax.{Expression, FormSyntax, EquationSyntax, NodeSyntax, BlockSyntax, plain, delay, call}
use Rattle.std.specs.List.{list_all}
use Rattle.rules.specs.Every.{every_from}
use Rattle.rules.specs.Names.{node_at, cell_flows}

-- a flow of the node
abbrev pub is_flow : NodeSyntax → ℕ → Bool
is_flow n x = nat_lt x (length n.flows)

-- clock 0, the base, or a derived clock of the node
abbrev pub is_clock : NodeSyntax → ℕ → Bool
is_clock n k = nat_le k (length n.clocks)

-- every flow is on a clock of the node
abbrev pub flows_fit : NodeSyntax → Bool
flows_fit n = list_all (λ (f : flow.Flow). is_clock n f.clock) n.flows

-- every derived clock, numbered from 1, has a parent with a lower number and goes by a flow of the node
abbrev pub clocks_fit : NodeSyntax → Bool
clocks_fit n = every_from (λ i (d : DerivedClock). nat_le d.parent i && is_flow n d.flow) 0 n.clocks

-- every flow that the cells name is one of the node
abbrev pub expression_fits : NodeSyntax → Expression → Bool
expression_fits n e = list_all (λ c. list_all (is_flow n) (cell_flows c)) e

-- node k: an equation defines flows of the node and names no others; a callee is an earlier node, and the
-- results and arguments are as many as its outputs and inputs
abbrev pub form_fits : BlockSyntax → ℕ → NodeSyntax → FormSyntax → Bool
form_fits b k n (plain f e) = is_flow n f && expression_fits n e
form_fits b k n (delay f v e) = is_flow n f && expression_fits n e
form_fits b k n (call m rs es) =
    nat_lt m k
    && (length rs == (node_at b m).outputs
    && (length es == (node_at b m).inputs
    && (list_all (is_flow n) rs && list_all (expression_fits n) es)))

abbrev pub equation_fits : BlockSyntax → ℕ → NodeSyntax → EquationSyntax → Bool
equation_fits b k n e = is_clock n e.clock && form_fits b k n e.form
