use Rattle.std.proofs.Common.{rules}
use Rattle.syntax.specs.Decoder.{read_clock}
use Rattle.reading.proofs.Steps.{takes_into}
use Rattle.reading.proofs.reader.rows.DerivedClockRow.read.Goals as goal

pub returns : goal.returns
unfolding read_clock
returns c = takes_into (search rules)
