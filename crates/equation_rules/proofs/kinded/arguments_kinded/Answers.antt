use Rattle.std.proofs.Common.{rules, tests}
use Rattle.std.proofs.lemmas.Iterator.{YieldsList-from_slice}
use Rattle.std.proofs.lemmas.Iterator.Consumers.{YieldsList-from_enumerate}
use Rattle.layout.specs.Layout.{expression_in}
use Rattle.rules.proofs.Images.{all_placed_images}
use Rattle.rules.specs.Kinds.{of_kind, kind_of}
use Rattle.rules.specs.Names.{flow_kind}
use Rattle.rules.specs.Trees.{tree_of}
use Rattle.rules.specs.Views.{node_of}
use Rattle.equation_rules.proofs.kinded.arguments_kinded.Goals as goal

pub returns : goal.returns
returns c =
    let n = c.args.node.now in
    all_placed_images _ _ _ (λ i e. of_kind (kind_of (node_of n) (tree_of e)) (flow_kind (node_of c.args.callee.now) i)) (expression_in n.cells.now) _ c.all.ensures.ran
    (YieldsList-from_enumerate (YieldsList-from_slice _ cc) cc)
    (λ x b q k. search (rules, tests))
