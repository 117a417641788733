-- Which equation waits on which.
use Rattle.std.specs.Prelude.{ℕ, Bool, List}
use Rattle.syntax.specs.Syntax.{EquationSyntax, NodeSyntax}
use Rattle.layout.specs.declared.node.Form.{Form}
use Rattle.std.specs.List.{list_any}
use Rattle.rules.specs.Every.{has}
use Rattle.rules.specs.Names.{defined_by}
use Rattle.rules.specs.Definitions.{needs}
use Rattle.rules.specs.Views.{row_defines}

-- an equation waits on one that defines a flow that it needs
abbrev pub waits_on : NodeSyntax → EquationSyntax → EquationSyntax → Bool
waits_on n e d = list_any (λ y. has y (defined_by d.form)) (needs n e)

-- it defines one of these
abbrev pub defines_one : Form → List ℕ → Bool
defines_one f xs = list_any (λ y. has y (row_defines f)) xs
