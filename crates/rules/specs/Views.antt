-- The node and the block that are looked at.
use Rattle.std.specs.Prelude.{ℕ, List, [], ◌∷◌, map}
use Rattle.syntax.specs.Syntax.{NodeSyntax, BlockSyntax}
use Rattle.layout.specs.declared.node.Form.{Form}
use Rattle.layout.specs.declared.node.Form.TheVariants.{Plain, Delay, Call}
use Rattle.layout.specs.Layout.{results_in, equation_in, node_in}
use Rattle.rules.specs.declared.view.NodeView.{NodeView}
use Rattle.rules.specs.declared.view.BlockView.{BlockView}
use Rattle.rules.specs.declared.view.chain.ClockChain.{ClockChain}
use Rattle.rules.specs.Names.{chain}

abbrev pub node_of : NodeView → NodeSyntax
node_of v = record {
  inputs = v.inputs;
  outputs = v.outputs;
  locals = v.locals;
  flows = v.flows.now;
  clocks = v.clocks.now;
  equations = map (equation_in v.cells.now) v.equations.now;
}

unfoldable pub block_of : BlockView → BlockSyntax
block_of v = map (node_in v.cells.now) v.nodes.now

-- the flows that the row of an equation defines, whatever the cells
abbrev pub row_defines : Form → List ℕ
row_defines (Plain f s) = f ∷ []
row_defines (Delay f v s) = f ∷ []
row_defines (Call k rs es) = results_in rs

-- the flows of a chain of clocks that are left
unfoldable pub chain_left : ClockChain → List ℕ
chain_left c = chain c.clocks.now c.most c.clock
