use Rattle.std.proofs.Common.{rules}
use Rattle.layout.proofs.Vectors.{none}
use Rattle.layout.proofs.up_to.UpTo.new.Goals as goal

pub invariant_of-result : goal.invariant_of-result
invariant_of-result g c = (search rules, rw c.blank.ensures (none g.row.N g.T.Blank.blank))
