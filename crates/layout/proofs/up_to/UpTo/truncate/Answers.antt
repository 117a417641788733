use Rattle.std.proofs.Common.{◌≡◌, ◌+◌, ◌-◌, ◌<◌, ◌∙◌, arith}
use Rattle.layout.proofs.Vectors.{popped, kept}
use Rattle.layout.proofs.up_to.UpTo.truncate.Goals as goal

pub loop-self-preserved : goal.loop-self-preserved
loop-self-preserved g c =
    let v = c.loop-self.self-inside in
    let i = c.loop-self.invariant in
    let d = g.T.Blank.blank in
    let more : c.args.count < v.count = omega (arith, c.loop-self-test.true, c.from.ensures) in
    let one : v.count ≡ v.count - 1 + 1 = omega arith in
    rw (c.from-in-loop-self.ensures, c.blank.ensures) (
      omega (arith, i.0),
      popped g.row.N d v.places v.count (v.count - 1) one (omega (arith, i.0)) i.1,
      kept c.args.count v.count (v.count - 1) d v.places one (omega arith) ∙ i.2,
    )
