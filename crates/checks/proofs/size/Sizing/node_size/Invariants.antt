use Rattle.std.proofs.Common.{◌≡◌}
use Rattle.rules.specs.Views.{block_of}
use Rattle.checks.proofs.Sizing.{added}
use Rattle.checks.proofs.size.Sizing.node_size.Given as goal

abbrev pub invariant-loop-equation : goal.invariant-loop-equation
invariant-loop-equation l = l.size ≡ added (block_of l.self.block) l.self.earlier.now l.node.cells.now l.equation-index l.node.equations.now
