use Rattle.std.proofs.Common.{refl, arith}
use Rattle.std.proofs.lemmas.Result.{err_from_is_err_and}
use Rattle.reading.proofs.Loops.{cells_more, cells_stops, cells_all}
use Rattle.reading.proofs.reader.BlockReader.cells.Goals as goal

pub returns-in_err-cell : goal.returns-in_err-cell
returns-in_err-cell c =
    let p = err_from_is_err_and c.from_residual.result c.from_residual.ensures.1 in
    rw (p.1, p.2) (cells_stops c.loop.invariant c.loop-test.true c.in_err-cell.ensures.takes)

pub loop-preserved : goal.loop-preserved
loop-preserved c = cells_more c.loop.invariant c.loop-test.true c.in_ok-cell.ensures.takes refl refl refl c.push.ensures.cells c.push.ensures.used

pub returns : goal.returns
returns c = cells_all c.loop.invariant (omega arith)
