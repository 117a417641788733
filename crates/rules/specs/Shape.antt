-- Cells that list a tree.
use Rattle.std.specs.Prelude.{Bool, true, false, is_some, Some, None, Option}
use Rattle.syntax.specs.Syntax.{FormSyntax, plain, delay, call}
use Rattle.std.specs.List.{list_all}
use Rattle.rules.specs.Trees.{Control, simple, merge, choose, tree_of}

abbrev pub is_exp : Option Control → Bool
is_exp None = false
is_exp (Some (simple e)) = true
is_exp (Some (merge n a b)) = false
is_exp (Some (choose c a b)) = false

-- a control expression may stand in a plain equation alone; in a delay, and as an argument, an expression
abbrev pub form_shaped : FormSyntax → Bool
form_shaped (plain f e) = is_some (tree_of e)
form_shaped (delay f v e) = is_exp (tree_of e)
form_shaped (call m rs es) = list_all (λ e. is_exp (tree_of e)) es
