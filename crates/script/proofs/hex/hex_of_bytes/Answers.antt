use Rattle.std.proofs.Common.{rules}
use Rattle.script.proofs.Hexes.{hex_more}
use Rattle.script.proofs.hex.hex_of_bytes.Goals as goal

pub loop-byte-preserved : goal.loop-byte-preserved
loop-byte-preserved c = let m = hex_more c.args.bytes.now c.loop-byte.byte-index in search rules
