use Rattle.std.proofs.Common.{None, Some, sym, subst}
use Rattle.rules.specs.Examined.{First, Holds, node_places}
use Rattle.rules.specs.Names.{node_at}
use Rattle.rules.specs.Views.{block_of}
use Rattle.examine.proofs.Turns.{node_stops, node_goes_on}
use Rattle.examine.proofs.driver.first_in_node.Goals as goal

pub returns-then-not-node_holds : goal.returns-then-not-node_holds
returns-then-not-node_holds c =
    node_stops c.args.block.now.view c.args.check c.args.number c.by_number-at.result c.by_number-at.ensures _ c.node_holds.ensures c.if-not-node_holds.true

pub returns-in_err-equation : goal.returns-in_err-equation
returns-in_err-equation c =
    let b = block_of c.args.block.now.view in
    let k = c.args.number in
    subst (First (Holds b c.args.check) (node_places k (node_at b k))) (sym c.from_residual.ensures)
    (node_goes_on c.args.block.now.view c.args.check k c.by_number-at.result c.by_number-at.ensures _ c.node_holds.ensures c.if-not-node_holds.false None c.in_err-equation.ensures)

pub returns : goal.returns
returns c =
    node_goes_on c.args.block.now.view c.args.check c.args.number c.by_number-at.result c.by_number-at.ensures _ c.node_holds.ensures c.if-not-node_holds.false (Some c.in_ok-equation.equation) c.in_ok-equation.ensures
