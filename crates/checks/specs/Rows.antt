-- How often rows define a flow.
use Rattle.std.specs.Prelude.{ℕ, List, sum_by}
use Rattle.layout.specs.declared.node.Equation.{Equation}
use Rattle.rules.specs.Definitions.{times}
use Rattle.rules.specs.Views.{row_defines}

abbrev pub times_defined : ℕ → List Equation → ℕ
times_defined x es = sum_by (λ (e : Equation). times x (row_defines e.form)) es
