use Rattle.std.proofs.Common.{◌≡◌, ◌≤◌, take}
use Rattle.layout.specs.Vectors.{padded}
use Rattle.layout.proofs.up_to.UpTo.truncate.Given as goal

abbrev pub invariant-loop-self : goal.invariant-loop-self
invariant-loop-self g l =
    let v = l.self-inside in
    (v.count ≤ g.row.N) × (v.places ≡ padded g.row.N g.T.Blank.blank (take v.count v.places)) × (take l.count (take v.count v.places) ≡ take l.count l.fn.self.items)

abbrev pub decreases-loop-self : goal.decreases-loop-self
decreases-loop-self g l = l.self-inside.count
