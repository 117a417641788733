use Rattle.std.proofs.Common.{◌<◌, slice_set, ap, ◌∙◌, arith}
use Rattle.std.proofs.Math.Seq.{take-set-lt}
use Rattle.layout.proofs.Vectors.{replaced}
use Rattle.layout.proofs.up_to.UpTo.set.Goals as goal

pub invariant_of-self : goal.invariant_of-self
invariant_of-self g c =
    let v = c.self.inside in
    let i = c.self.invariant in
    let inside : c.args.number < v.count = omega (arith, c.if-number-from.false, c.from.ensures) in
    (i.0, replaced g.row.N g.T.Blank.blank v.places v.count c.args.number c.args.element inside i.0 i.1)

pub returns-clause-some : goal.returns-clause-some
returns-clause-some g c =
    let v = c.self.inside in
    let inside : c.args.number < v.count = omega (arith, c.if-number-from.false, c.from.ensures) in
    take-set-lt v.count v.places c.args.number c.args.element inside ∙ ap (λ w. slice_set w.items c.args.number c.args.element) c.self.view_is
