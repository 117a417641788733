-- What an equation waits on, part by part.
use Rattle.std.proofs.Common.{◌≡◌, ◌||◌, List, sym, ap, ◌∙◌}
use Rattle.std.proofs.lemmas.List.Folds.{list_any-append}
use Rattle.syntax.specs.declared.cell.Cell.{Cell}
use Rattle.syntax.specs.Syntax.{EquationSyntax, NodeSyntax}
use Rattle.layout.specs.declared.node.Equation.{Equation}
use Rattle.layout.specs.Layout.{equation_in}
use Rattle.std.specs.List.{list_any}
use Rattle.rules.specs.Every.{has}
use Rattle.rules.specs.Names.{clock_flows}
use Rattle.rules.specs.Definitions.{form_needs, needs}
use Rattle.rules.specs.Views.{row_defines}
use Rattle.rules.proofs.Rows.{row-defined}
use Rattle.order.specs.Waiting.{waits_on, defines_one}

-- by its clock or by its form
pub waits_parts : (n : NodeSyntax) (cells : List Cell) (e : EquationSyntax) (on : Equation) → (defines_one on.form (clock_flows n e.clock) || defines_one on.form (form_needs e.form)) ≡ waits_on n e (equation_in cells on)
waits_parts n cells e on =
    sym (list_any-append (λ y. has y (row_defines on.form)) (clock_flows n e.clock) (form_needs e.form))
    ∙ ap (λ ds. list_any (λ y. has y ds) (needs n e)) (row-defined cells on.form)
