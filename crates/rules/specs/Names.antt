-- What the numbers of a node name.
use Rattle.std.specs.Prelude.{ℕ, zero, suc, ◌-◌, cond, List, [], ◌∷◌, get_or, ◌==◌, slice_index_or}
use Rattle.syntax.specs.declared.cell.Cell.{Cell}
use Rattle.syntax.specs.declared.cell.Cell.TheVariants.{Flow, Truth, Number, Unary, Binary, When, Merge, If}
use Rattle.syntax.specs.declared.header.Kind.{Kind}
use Rattle.syntax.specs.declared.header.DerivedClock.{DerivedClock}
use Rattle.syntax.specs.Syntax.{FormSyntax, EquationSyntax, NodeSyntax, BlockSyntax, plain, delay, call}
use Rattle.layout.specs.Blanks.{blank_flow, blank_clock}

-- what stands where a number names nothing; where a block fits, none does
abbrev pub no_equation : EquationSyntax
no_equation = record { clock = 0; form = plain 0 [] }

abbrev pub no_node : NodeSyntax
no_node = record { inputs = 0; outputs = 0; locals = 0; flows = []; clocks = []; equations = [] }

abbrev pub node_at : BlockSyntax → ℕ → NodeSyntax
node_at b k = slice_index_or b k no_node

abbrev pub equation_at : NodeSyntax → ℕ → EquationSyntax
equation_at n i = slice_index_or n.equations i no_equation

abbrev pub flow_kind : NodeSyntax → ℕ → Kind
flow_kind n x = (get_or n.flows x blank_flow).kind

abbrev pub flow_clock : NodeSyntax → ℕ → ℕ
flow_clock n x = (get_or n.flows x blank_flow).clock

-- the flows that a clock goes by, from the clock itself down to the base, at most so many
unfoldable pub chain : List DerivedClock → ℕ → ℕ → List ℕ
chain ds zero k = []
chain ds (suc most) k = cond (k == 0) [] ((get_or ds (k - 1) blank_clock).flow ∷ chain ds most (get_or ds (k - 1) blank_clock).parent)

-- all of them: a node has at most 7 derived clocks, and each has a parent with a lower number
abbrev pub clock_flows : NodeSyntax → ℕ → List ℕ
clock_flows n k = chain n.clocks 7 k

-- the flows that a cell names
abbrev pub cell_flows : Cell → List ℕ
cell_flows (Flow n) = n ∷ []
cell_flows (Truth b) = []
cell_flows (Number z) = []
cell_flows (Unary o) = []
cell_flows (Binary o) = []
cell_flows (When n s) = n ∷ []
cell_flows (Merge n) = n ∷ []
cell_flows If = []

-- the flows that an equation defines
abbrev pub defined_by : FormSyntax → List ℕ
defined_by (plain f e) = f ∷ []
defined_by (delay f v e) = f ∷ []
defined_by (call k rs es) = rs
