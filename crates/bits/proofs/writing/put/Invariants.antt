use Rattle.bits.proofs.Fields.{Putting}
use Rattle.bits.proofs.writing.put.Given as goal

abbrev pub invariant-loop-k : goal.invariant-loop-k
invariant-loop-k l = Putting l.value l.width l.at l.initial.out l.k l.out
