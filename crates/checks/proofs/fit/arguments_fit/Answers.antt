use Rattle.std.proofs.Common.{rules, tests}
use Rattle.std.proofs.lemmas.Iterator.{YieldsList-from_slice}
use Rattle.layout.specs.Layout.{expression_in}
use Rattle.rules.proofs.Images.{all_images}
use Rattle.rules.specs.Fit.{expression_fits}
use Rattle.rules.specs.Views.{node_of}
use Rattle.checks.proofs.fit.arguments_fit.Goals as goal

pub returns : goal.returns
returns c =
    let n = c.args.node.now in
    all_images _ _ _ (expression_fits (node_of n)) (expression_in n.cells.now) c.all.ensures.ran (YieldsList-from_slice c.args.arguments.now.items cc) (λ x b q k. search (rules, tests))
