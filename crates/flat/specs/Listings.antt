-- The flows of a tree and those of the cells that list it.
use Rattle.std.specs.Prelude.{◌≡◌}
use Rattle.rules.specs.Definitions.{cells_flows}
use Rattle.rules.specs.Trees.{Control, control_cells}
use Rattle.flat.specs.Programs.{control_flows}

-- a tree names just the flows that its cells name
abbrev pub FlowsAreListed : Type 0
FlowsAreListed = (t : Control) → cells_flows (control_cells t) ≡ control_flows t
