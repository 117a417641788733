use Rattle.std.proofs.Common.{cond, eqb, ltb, ap, ◌∙◌}
use Rattle.checks.proofs.Defining.{capped_tells, rows_define}
use Rattle.checks.proofs.definitions.defined_right.Goals as goal

pub returns : goal.returns
returns c =
    let n = c.args.node.now in
    capped_tells _ c.times_defined.result c.times_wanted.result _ c.times_defined.ensures c.times_wanted.ensures
    ∙ ap (λ k. eqb k (cond (ltb c.args.flow n.inputs) 0 1)) (rows_define n.cells.now c.args.flow n.equations.now)
