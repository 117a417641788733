use Rattle.rules.specs.Views.{block_of}
use Rattle.examine.proofs.Turns.{NodesLeft}
use Rattle.examine.proofs.driver.first_in_block.Given as goal

abbrev pub invariant-loop-number : goal.invariant-loop-number
invariant-loop-number l = NodesLeft (block_of l.block.view) l.check l.number
