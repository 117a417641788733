use Rattle.std.proofs.Common.{sym, ◌∙◌, rules, tests}
use Rattle.std.proofs.lemmas.Iterator.{YieldsList-from_slice}
use Rattle.std.proofs.lemmas.Iterator.Search.{any_from_yields_List}
use Rattle.layout.specs.Layout.{expression_in}
use Rattle.rules.specs.Every.{has}
use Rattle.rules.specs.Names.{cell_flows}
use Rattle.rules.specs.Views.{row_defines}
use Rattle.order.specs.Waiting.{defines_one}
use Rattle.order.proofs.Somes.{any-flat_map}
use Rattle.order.proofs.waiting.expression_waits.Goals as goal

pub returns : goal.returns
returns c =
    let f = c.args.on.now in
    let cells = expression_in c.args.cells.now c.args.span in
    any_from_yields_List (λ cell. defines_one f (cell_flows cell)) _ _ _ c.any.ensures.ran (YieldsList-from_slice cells cc) (λ x b q k. search (rules, tests))
    ∙ sym (any-flat_map (λ y. has y (row_defines f)) cell_flows cells)
