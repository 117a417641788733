use Rattle.std.proofs.Common.{map, subst}
use Rattle.layout.specs.Layout.{node_in}
use Rattle.layout.specs.Held.{block_in}
use Rattle.rules.specs.Views.{block_of}
use Rattle.rules.specs.Examined.{Examined}
use Rattle.examine.proofs.driver.examine.Goals as goal

pub returns : goal.returns
unfolding block_of block_in
returns c = subst (λ b. Examined b c.examine_block.result) (λ i. map (node_in (c.cells.ensures i)) (c.nodes.ensures.part i)) c.examine_block.ensures
