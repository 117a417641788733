-- The rows that hold a block, and the block that rows stand for.
use Rattle.std.specs.Prelude.{ℕ, ◌+◌, List, [], ◌∷◌, map, length, take, drop}
use Rattle.syntax.specs.declared.cell.Cell.{Cell}
use Rattle.syntax.specs.Syntax.{Expression, FormSyntax, EquationSyntax, NodeSyntax, BlockSyntax, plain, delay, call}
use Rattle.std.specs.List.{flat_map}
use Rattle.layout.specs.Vectors.{Items}
use Rattle.layout.specs.declared.node.Span.{Span}
use Rattle.layout.specs.declared.node.Form.{Form}
use Rattle.layout.specs.declared.node.Form.TheVariants.{Plain, Delay, Call}
use Rattle.layout.specs.declared.node.Equation.{Equation}
use Rattle.layout.specs.declared.node.Node.{Node}

-- the cells of a form, an equation, a node and a block, in the order in which they are read
abbrev pub whole : Expression → List Cell
whole e = e

abbrev pub arguments_cells : List Expression → List Cell
arguments_cells es = flat_map whole es

abbrev pub form_cells : FormSyntax → List Cell
form_cells (plain f e) = e
form_cells (delay f v e) = e
form_cells (call n rs es) = arguments_cells es

abbrev pub equation_cells : EquationSyntax → List Cell
equation_cells e = form_cells e.form

abbrev pub equations_cells : List EquationSyntax → List Cell
equations_cells es = flat_map equation_cells es

abbrev pub node_cells : NodeSyntax → List Cell
node_cells n = equations_cells n.equations

abbrev pub block_cells : BlockSyntax → List Cell
block_cells b = flat_map node_cells b

-- the rows of xs, whose cells stand one after another from `from` on
unfoldable pub rows_from : {A B : Type 0} → (ℕ → A → B) → (A → List Cell) → ℕ → List A → List B
rows_from row cells from [] = []
rows_from row cells from (x ∷ xs) = row from x ∷ rows_from row cells (from + length (cells x)) xs

-- the row of an expression whose cells begin at `from`; and so for a form, an equation and a node
abbrev pub span_row : ℕ → Expression → Span
span_row from e = record { from = from; len = length e }

abbrev pub results_row : List ℕ → Items ℕ
results_row rs = record { items = rs }

abbrev pub arguments_row : ℕ → List Expression → Items Span
arguments_row from es = record { items = rows_from span_row whole from es }

abbrev pub form_row : ℕ → FormSyntax → Form
form_row from (plain f e) = Plain f (span_row from e)
form_row from (delay f v e) = Delay f v (span_row from e)
form_row from (call n rs es) = Call n (results_row rs) (arguments_row from es)

abbrev pub equation_row : ℕ → EquationSyntax → Equation
equation_row from e = record { clock = e.clock; form = form_row from e.form }

abbrev pub equations_row : ℕ → List EquationSyntax → Items Equation
equations_row from es = record { items = rows_from equation_row equation_cells from es }

abbrev pub node_row : ℕ → NodeSyntax → Node
node_row from n = record {
  inputs = n.inputs;
  outputs = n.outputs;
  locals = n.locals;
  flows = record { items = n.flows };
  clocks = record { items = n.clocks };
  equations = equations_row from n.equations;
}

-- the expression, the equation and the node that rows stand for, given all cells
abbrev pub expression_in : List Cell → Span → Expression
expression_in cells s = take s.len (drop s.from cells)

abbrev pub results_in : Items ℕ → List ℕ
results_in rs = rs.items

abbrev pub arguments_in : List Cell → Items Span → List Expression
arguments_in cells es = map (expression_in cells) es.items

abbrev pub form_in : List Cell → Form → FormSyntax
form_in cells (Plain f s) = plain f (expression_in cells s)
form_in cells (Delay f v s) = delay f v (expression_in cells s)
form_in cells (Call n rs es) = call n (results_in rs) (arguments_in cells es)

abbrev pub equation_in : List Cell → Equation → EquationSyntax
equation_in cells e = record { clock = e.clock; form = form_in cells e.form }

abbrev pub equations_in : List Cell → Items Equation → List EquationSyntax
equations_in cells es = map (equation_in cells) es.items

abbrev pub node_in : List Cell → Node → NodeSyntax
node_in cells n = record {
  inputs = n.inputs;
  outputs = n.outputs;
  locals = n.locals;
  flows = take (n.inputs + n.outputs + n.locals) n.flows.items;
  clocks = n.clocks.items;
  equations = equations_in cells n.equations;
}
