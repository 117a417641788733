use Rattle.std.proofs.Common.{ap, ◌∙◌, subst}
use Rattle.layout.specs.Layout.{node_in}
use Rattle.order.specs.Table.{wait_rows}
use Rattle.order.specs.Picking.{Settled}
use Rattle.order.proofs.Answering.{answers}
use Rattle.order.proofs.ordering.order_of.Goals as goal

pub returns : goal.returns
returns c =
    answers (node_in c.args.cells.now c.args.node.now) c.order.result
    (subst (λ t. Settled t c.order.result) (c.of.ensures ∙ ap wait_rows c.view_of.ensures) c.order.ensures)
