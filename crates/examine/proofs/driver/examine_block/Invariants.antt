use Rattle.rules.specs.Views.{block_of}
use Rattle.examine.proofs.Turns.{ChecksLeft}
use Rattle.examine.proofs.driver.examine_block.Given as goal

abbrev pub invariant-loop-check : goal.invariant-loop-check
invariant-loop-check l = ChecksLeft (block_of l.block.view) l.check-index
