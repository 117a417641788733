use Rattle.std.proofs.Common.{◌≡◌, length, vec_items}
use Rattle.script.specs.Hex.{unhex}
use Rattle.script.proofs.Hexes.{ahead}
use Rattle.script.proofs.hex.bytes_of_hex.Given as goal

abbrev pub invariant-loop-digits : goal.invariant-loop-digits
invariant-loop-digits l = ahead (vec_items l.bytes) (unhex l.digits) ≡ unhex l.text

abbrev pub decreases-loop-digits : goal.decreases-loop-digits
decreases-loop-digits l = length l.digits
