-- What stands where nothing was read, and what a number names that names nothing.
use Rattle.std.specs.Prelude.{false, []}
use Rattle.syntax.specs.declared.cell.Cell.{Cell}
use Rattle.syntax.specs.declared.cell.Cell.TheVariants.{Flow}
use Rattle.syntax.specs.declared.header.Kind.TheVariants.{Truth}
use Rattle.syntax.specs.declared.header.Flow as flow
use Rattle.syntax.specs.declared.header.DerivedClock.{DerivedClock}
use Rattle.layout.specs.declared.node.Span.{Span}
use Rattle.layout.specs.declared.node.Form.TheVariants.{Plain}
use Rattle.layout.specs.declared.node.Equation.{Equation}
use Rattle.layout.specs.declared.node.Node.{Node}

abbrev pub blank_cell : Cell
blank_cell = Flow 0

abbrev pub blank_flow : flow.Flow
blank_flow = record { kind = Truth; clock = 0 }

abbrev pub blank_clock : DerivedClock
blank_clock = record { parent = 0; flow = 0; side = false }

abbrev pub blank_span : Span
blank_span = record { from = 0; len = 0 }

abbrev pub blank_equation : Equation
blank_equation = record { clock = 0; form = Plain 0 blank_span }

unfoldable pub blank_node : Node
blank_node = record {
  inputs = 0;
  outputs = 0;
  locals = 0;
  flows = record { items = [] };
  clocks = record { items = [] };
  equations = record { items = [] };
}
