use Rattle.script.proofs.Hexes.{round_trip}
use Rattle.script.proofs.hex.written_reads_back.Goals as goal

pub returns : goal.returns
returns c = round_trip
