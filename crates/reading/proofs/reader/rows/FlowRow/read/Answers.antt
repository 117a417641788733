use Rattle.std.proofs.Common.{rules}
use Rattle.syntax.specs.Decoder.{read_flow}
use Rattle.reading.proofs.Steps.{takes_into}
use Rattle.reading.proofs.reader.rows.FlowRow.read.Goals as goal

pub returns : goal.returns
unfolding read_flow
returns c = takes_into (search rules)
