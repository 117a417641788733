use Rattle.std.proofs.Common.{arith}
use Rattle.rules.specs.Views.{block_of}
use Rattle.checks.proofs.Places.{nodes_of}
use Rattle.examine.proofs.Turns.{nodes_more, nodes_stop, nodes_all}
use Rattle.examine.proofs.driver.first_in_block.Goals as goal

pub loop-number-init : goal.loop-number-init
loop-number-init c = λ r f. f

pub returns-in-Some : goal.returns-in-Some
returns-in-Some c =
    let v = c.args.block.now.view in
    nodes_stop (block_of v) c.args.check c.loop-number.number _ (omega (arith, nodes_of v, c.loop-number-test.true)) c.loop-number.invariant c.in-Some.ensures

pub loop-number-preserved : goal.loop-number-preserved
loop-number-preserved c =
    let v = c.args.block.now.view in
    nodes_more (block_of v) c.args.check c.loop-number.number (omega (arith, nodes_of v, c.loop-number-test.true)) c.loop-number.invariant c.in_default.ensures

pub returns : goal.returns
returns c =
    let v = c.args.block.now.view in
    nodes_all (block_of v) c.args.check c.loop-number.number (omega (arith, nodes_of v, c.loop-number-test.false)) c.loop-number.invariant
