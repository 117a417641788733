-- How often equations define a flow.
use Rattle.std.proofs.Common.{◌≡◌, ℕ, ◌+◌, Bool, true, false, cond, eqb, List, [], ◌∷◌, map, sym, refl, ap, ◌∙◌, arith}
use Rattle.std.proofs.lemmas.Bool.Decides.{nat_tests}
use Rattle.std.proofs.lemmas.List.Sums.{sum_by-append, sum_by-cons}
use Rattle.syntax.specs.declared.cell.Cell.{Cell}
use Rattle.std.specs.List.{flat_map}
use Rattle.syntax.specs.Syntax.{EquationSyntax}
use Rattle.layout.specs.declared.node.Equation.{Equation}
use Rattle.layout.specs.Layout.{form_in, equation_in}
use Rattle.rules.specs.Definitions.{times}
use Rattle.rules.specs.Names.{defined_by}
use Rattle.rules.specs.Views.{row_defines}
use Rattle.rules.proofs.Rows.{row-defined}
use Rattle.checks.specs.Rows.{times_defined}
use Rattle.checks.specs.Sums.{capped}

-- rows define what the equations that they stand for do
pub rows_define : (cells : List Cell) (x : ℕ) (es : List Equation) → times_defined x es ≡ times x (flat_map (λ (e : EquationSyntax). defined_by e.form) (map (equation_in cells) es))
rows_define cells x [] = refl
rows_define cells x (e ∷ es) =
    let rest = flat_map (λ (d : EquationSyntax). defined_by d.form) (map (equation_in cells) es) in
    sum_by-cons (λ (d : Equation). times x (row_defines d.form)) e es
    ∙ ap (λ n. times x (row_defines e.form) + n) (rows_define cells x es)
    ∙ ap (λ ys. times x ys + times x rest) (row-defined cells e.form)
    ∙ sym (sum_by-append (λ y. cond (eqb x y) 1 0) (defined_by (form_in cells e.form)) rest)

-- a small number is told from others by the capped one
pub capped_tells : (n r w : ℕ) (t : Bool) → r ≡ capped n → w ≡ cond t 0 1 → eqb r w ≡ eqb n (cond t 0 1)
capped_tells n r w true e f = grind (arith, nat_tests)
capped_tells n r w false e f = grind (arith, nat_tests)
