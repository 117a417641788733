use Rattle.std.proofs.Common.{◌≡◌, ◌+◌, map, ◌∙◌, arith}
use Rattle.std.proofs.iter.runs.Made.{chains}
use Rattle.std.proofs.lemmas.Grind.{common_steps}
use Rattle.std.specs.List.{fold}
use Rattle.layout.specs.declared.node.Equation.{Equation}
use Rattle.rules.specs.Definitions.{times}
use Rattle.rules.specs.Views.{row_defines}
use Rattle.checks.specs.Sums.{capped}
use Rattle.checks.proofs.Totals.{capped_fold}
use Rattle.checks.proofs.definitions.times_defined.Goals as goal

pub returns : goal.returns
returns c =
    let worth = λ (e : Equation). times c.args.flow (row_defines e.form) in
    let e : c.fold.result ≡ fold (λ s n. capped (s + n)) 0 (map worth c.args.equations.now) = grind (arith, common_steps, chains) in
    e ∙ capped_fold worth c.args.equations.now
