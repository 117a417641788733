use Rattle.syntax.specs.Decoder.{read_cell}
use Rattle.reading.proofs.Loops.{CellStoring}
use Rattle.reading.proofs.reader.BlockReader.cells.Given as goal

abbrev pub invariant-loop : goal.invariant-loop
invariant-loop l = CellStoring read_cell l.n l.initial.self l.counter l.self
