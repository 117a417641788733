use Rattle.rules.specs.Views.{block_of}
use Rattle.examine.proofs.Turns.{checks_more, checks_stop, checks_all}
use Rattle.examine.proofs.driver.examine_block.Goals as goal

pub loop-check-init : goal.loop-check-init
loop-check-init c = λ r f. f

pub returns-in-Some : goal.returns-in-Some
returns-in-Some c = checks_stop (block_of c.args.block.now.view) c.loop-check.check-index _ c.loop-check-test.true c.loop-check.invariant c.in-Some.place _ c.in-Some.ensures c.fault_at.ensures

pub loop-check-preserved : goal.loop-check-preserved
loop-check-preserved c = checks_more (block_of c.args.block.now.view) c.loop-check.check-index _ c.loop-check-test.true c.loop-check.invariant c.in_default.ensures

pub returns : goal.returns
returns c = checks_all (block_of c.args.block.now.view) c.loop-check.check-index c.loop-check-test.false c.loop-check.invariant
