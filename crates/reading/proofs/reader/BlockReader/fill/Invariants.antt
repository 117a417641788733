use Rattle.reading.proofs.Loops.{Storing}
use Rattle.reading.proofs.reader.BlockReader.fill.Given as goal

abbrev pub invariant-loop : goal.invariant-loop
invariant-loop g l = let t = g.T.Row in Storing t.row_of t.cells t.decoder l.n l.initial.self l.counter l.self l.rows.items
