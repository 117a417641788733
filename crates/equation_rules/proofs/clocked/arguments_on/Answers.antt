use Rattle.std.proofs.Common.{rules, tests}
use Rattle.std.proofs.lemmas.Iterator.{YieldsList-from_slice}
use Rattle.layout.specs.Layout.{expression_in}
use Rattle.rules.proofs.Images.{all_images}
use Rattle.rules.specs.Clocks.{on_clock, clock_of}
use Rattle.rules.specs.Trees.{tree_of}
use Rattle.rules.specs.Views.{node_of}
use Rattle.equation_rules.proofs.clocked.arguments_on.Goals as goal

pub returns : goal.returns
returns c =
    let n = c.args.node.now in
    all_images _ _ _ (λ e. on_clock (clock_of (node_of n) (tree_of e)) c.args.clock) (expression_in n.cells.now) c.all.ensures.ran (YieldsList-from_slice _ cc) (λ x b q k. search (rules, tests))
