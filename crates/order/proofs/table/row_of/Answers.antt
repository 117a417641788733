use Rattle.std.proofs.Common.{ap, ◌∙◌}
use Rattle.layout.specs.Layout.{equation_in}
use Rattle.rules.specs.Views.{node_of}
use Rattle.order.specs.Waiting.{waits_on}
use Rattle.order.proofs.Tables.{mapped_more}
use Rattle.order.proofs.table.row_of.Goals as goal

pub loop-on-preserved : goal.loop-on-preserved
loop-on-preserved c =
    let v = c.args.view.now in
    let waits = waits_on (node_of v) (equation_in v.cells.now c.args.equation.now) in
    let e = c.equation_waits.ensures ∙ ap (λ on. waits (equation_in v.cells.now on)) c.on-item.is in
    c.push.ensures ∙ mapped_more waits (equation_in v.cells.now) _ _ _ c.loop-on.invariant e c.loop-on-test.true
