use Rattle.std.proofs.Common.{sym, ◌∙◌, rules, tests}
use Rattle.std.proofs.lemmas.Iterator.{YieldsList-from_slice}
use Rattle.layout.specs.Layout.{expression_in, arguments_in}
use Rattle.rules.proofs.Images.{any_image}
use Rattle.rules.specs.Every.{has}
use Rattle.rules.specs.Definitions.{cells_flows}
use Rattle.rules.specs.Views.{row_defines}
use Rattle.order.specs.Waiting.{defines_one}
use Rattle.order.proofs.Somes.{any-flat_map}
use Rattle.order.proofs.waiting.arguments_wait.Goals as goal

pub returns : goal.returns
returns c =
    let f = c.args.on.now in
    any_image _ _ _ (λ e. defines_one f (cells_flows e)) (expression_in c.args.cells.now) c.any.ensures.ran (YieldsList-from_slice c.args.arguments.now.items cc) (λ x b q k. search (rules, tests))
    ∙ sym (any-flat_map (λ y. has y (row_defines f)) cells_flows (arguments_in c.args.cells.now c.args.arguments.now))
