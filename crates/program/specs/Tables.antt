-- The lines that tables hold.
use Rattle.std.specs.Prelude.{ℕ, List, map, take, drop}
use Rattle.syntax.specs.declared.cell.Cell.{Cell}
use Rattle.syntax.specs.declared.cell.Cell.TheVariants as cell
use Rattle.syntax.specs.Syntax.{Expression}
use Rattle.layout.specs.declared.node.Span.{Span}
use Rattle.program.specs.declared.row.WideCell.{WideCell}
use Rattle.program.specs.declared.row.WideCell.TheVariants.{Flow, Truth, Number, Unary, Binary, When, Merge, If}
use Rattle.program.specs.declared.row.Source.{Source}
use Rattle.program.specs.declared.row.Source.TheVariants.{Input, Plain, Delay}
use Rattle.program.specs.declared.row.FlowRow.{FlowRow}
use Rattle.program.specs.Lines.{Origin, Line, input, plain, delay}

-- a cell by itself, however large the numbers of its flows
abbrev pub as_cell : WideCell → Cell
as_cell (Flow x) = cell.Flow x
as_cell (Truth b) = cell.Truth b
as_cell (Number z) = cell.Number z
as_cell (Unary o) = cell.Unary o
as_cell (Binary o) = cell.Binary o
as_cell (When x s) = cell.When x s
as_cell (Merge x) = cell.Merge x
as_cell If = cell.If

-- the cells of an expression
abbrev pub cells_in : List WideCell → Span → List WideCell
cells_in cells s = take s.len (drop s.from cells)

abbrev pub expression_at : List WideCell → Span → Expression
expression_at cells s = map as_cell (cells_in cells s)

abbrev pub origin_in : List WideCell → Source → Origin
origin_in cells Input = input
origin_in cells (Plain s) = plain (expression_at cells s)
origin_in cells (Delay v s) = delay v (expression_at cells s)

-- the line that a row stands for, given all cells
abbrev pub line_in : List WideCell → FlowRow → Line
line_in cells w = record { flow = w.flow; kind = w.kind; clock = w.clock; origin = origin_in cells w.source }

-- the lines of the first rows
abbrev pub lines_in : ℕ → List FlowRow → List WideCell → List Line
lines_in count rows cells = map (line_in cells) (take count rows)
