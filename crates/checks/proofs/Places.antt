-- How many nodes a block has.
use Rattle.std.proofs.Common.{◌≡◌, length}
use Rattle.std.proofs.lemmas.List.{length-map}
use Rattle.layout.specs.Layout.{node_in}
use Rattle.rules.specs.declared.view.BlockView.{BlockView}
use Rattle.rules.specs.Views.{block_of}

-- as many as its rows
pub nodes_of : (v : BlockView) → length (block_of v) ≡ length v.nodes.now
unfolding block_of
nodes_of v = length-map v.nodes.now (node_in v.cells.now)
