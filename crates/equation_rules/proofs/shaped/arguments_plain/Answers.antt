use Rattle.std.proofs.Common.{rules, tests}
use Rattle.std.proofs.lemmas.Iterator.{YieldsList-from_slice}
use Rattle.layout.specs.Layout.{expression_in}
use Rattle.rules.proofs.Images.{all_images}
use Rattle.rules.specs.Shape.{is_exp}
use Rattle.rules.specs.Trees.{tree_of}
use Rattle.equation_rules.proofs.shaped.arguments_plain.Goals as goal

pub returns : goal.returns
returns c = all_images _ _ _ (λ e. is_exp (tree_of e)) (expression_in c.args.node.now.cells.now) c.all.ensures.ran (YieldsList-from_slice _ cc) (λ x b q k. search (rules, tests))
