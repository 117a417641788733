use Rattle.std.proofs.Common.{rules}
use Rattle.layout.proofs.Vectors.{pushed}
use Rattle.layout.proofs.up_to.UpTo.push.Goals as goal

pub invariant_of-self : goal.invariant_of-self
invariant_of-self g c = (
  search rules,
  rw c.from.ensures (pushed g.row.N g.T.Blank.blank c.self.inside.places c.self.inside.count c.args.element (search rules) c.self.invariant.1),
)
