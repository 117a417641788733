use Rattle.std.proofs.Common.{◌≡◌, take, drop}
use Rattle.bits.specs.Bits.{bits_of, number_of}
use Rattle.bits.proofs.reading.number_at.Given as goal

abbrev pub invariant-loop-k : goal.invariant-loop-k
invariant-loop-k l = l.value ≡ number_of (take l.k (drop l.at (bits_of l.bytes)))
