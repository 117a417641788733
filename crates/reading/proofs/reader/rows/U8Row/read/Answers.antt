use Rattle.std.proofs.Common.{rules}
use Rattle.reading.proofs.Steps.{takes_into}
use Rattle.reading.proofs.reader.rows.U8Row.read.Goals as goal

pub returns : goal.returns
returns c = takes_into (search rules)
