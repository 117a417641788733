use Rattle.rules.specs.Views.{block_of}
use Rattle.std.proofs.Common.{◌∙◌}
use Rattle.checks.proofs.Sizing.{added_all}
use Rattle.checks.proofs.size.Sizing.node_size.Goals as goal

pub returns : goal.returns
returns c =
    let node = c.args.node.now in
    c.loop-equation.invariant
    ∙ added_all (block_of c.args.self.now.block) c.args.self.now.earlier.now node.cells.now c.loop-equation.equation-index node.equations.now c.loop-equation-test.false
