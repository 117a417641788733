use Rattle.std.proofs.Common.{arith}
use Rattle.std.proofs.lemmas.Result.{err_from_is_err_and}
use Rattle.reading.proofs.Loops.{storing_none, storing_more, storing_stops, storing_all}
use Rattle.reading.proofs.reader.BlockReader.fill.Goals as goal

pub loop-init : goal.loop-init
loop-init g c = rw c.requires.empty (storing_none _ _ _ _ _)

pub returns-in_err-read : goal.returns-in_err-read
returns-in_err-read g c =
    let p = err_from_is_err_and c.from_residual.result c.from_residual.ensures.1 in
    rw (p.1, p.2) (storing_stops c.loop.invariant c.loop-test.true (c.in_err-read.ensures))

pub loop-preserved : goal.loop-preserved
loop-preserved g c = rw c.push.ensures (storing_more c.loop.invariant c.loop-test.true (c.in_ok-read.ensures))

pub returns : goal.returns
returns g c = storing_all c.loop.invariant (omega arith)
