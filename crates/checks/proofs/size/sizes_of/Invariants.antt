use Rattle.std.proofs.Common.{◌≡◌}
use Rattle.rules.specs.Views.{block_of}
use Rattle.checks.proofs.Sizing.{sizes_below}
use Rattle.checks.proofs.size.sizes_of.Given as goal

abbrev pub invariant-loop-node : goal.invariant-loop-node
invariant-loop-node l = l.sizes.items ≡ sizes_below (block_of l.block) l.node-index
