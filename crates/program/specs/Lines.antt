-- An expanded program as lines in an order of work, and the program that they are.
use Rattle.std.specs.Prelude.{◌≡◌, ℕ, zero, suc, ◌+◌, ◌<◌, false, cond, List, [], ◌∷◌, map, length, Some, None, Option, ◌==◌, ◌≢◌, slice_index_or}
use Rattle.syntax.specs.declared.header.Kind.{Kind}
use Rattle.syntax.specs.declared.header.Kind.TheVariants.{Truth}
use Rattle.syntax.specs.declared.header.Constant.{Constant}
use Rattle.syntax.specs.Syntax.{Expression}
use Rattle.rules.specs.Trees.{Exp, Control, truth, simple, merge, choose, tree_of}
use Rattle.flat.specs.declared.row.Clock.{Clock}
use Rattle.flat.specs.declared.row.Clock.TheVariants.{Base}
use Rattle.flat.specs.Programs as programs

-- where a flow's values come from, its expression as cells
pub data Origin : Type 0 where
  input : Origin
  plain : Expression → Origin
  delay : Constant → Expression → Origin

-- a flow of the program
pub record Line : Type 0 where
  pub flow : ℕ
  pub kind : Kind
  pub clock : Clock
  pub origin : Origin

abbrev pub no_line : Line
no_line = record { flow = 0; kind = Truth; clock = Base; origin = input }

-- the tree of an expression; where cells list none, which no examined block has, a constant
abbrev pub control_in : Option Control → Control
control_in None = simple (truth false)
control_in (Some t) = t

abbrev pub exp_of : Control → Exp
exp_of (simple e) = e
exp_of (merge x a b) = truth false
exp_of (choose c a b) = truth false

abbrev pub definition_of : Origin → programs.Definition
definition_of input = programs.input
definition_of (plain e) = programs.plain (control_in (tree_of e))
definition_of (delay v e) = programs.delay v (exp_of (control_in (tree_of e)))

abbrev pub row_of : Line → programs.Row
row_of l = record { kind = l.kind; clock = l.clock; definition = definition_of l.origin }

-- the line of flow x
unfoldable pub line_of : ℕ → List Line → Line
line_of x [] = no_line
line_of x (l ∷ ls) = cond (x == l.flow) l (line_of x ls)

-- f k, f (k + 1) and so on, n of them
unfoldable pub each : {A : Type 0} → (ℕ → A) → ℕ → ℕ → List A
each f k zero = []
each f k (suc n) = f k ∷ each f (k + 1) n

-- the program of lines, of which the first flows, so many, are the main ones
abbrev pub program_of : ℕ → List Line → programs.Program
program_of main ls = record { main = main; rows = each (λ x. row_of (line_of x ls)) 0 (length ls) }

abbrev pub line_flow : Line → ℕ
line_flow l = l.flow

abbrev pub flow_at : List Line → ℕ → ℕ
flow_at ls i = (slice_index_or ls i no_line).flow

-- every flow of the program has one line
pub record Numbered (ls : List Line) : Type 0 where
  pub inside : (i : ℕ) → i < length ls → flow_at ls i < length ls
  pub apart : (i j : ℕ) → i < j → j < length ls → flow_at ls i ≢ flow_at ls j
  pub covers : (x : ℕ) → x < length ls → (i : ℕ) × (i < length ls) × (flow_at ls i ≡ x)

-- and the lines stand in an order in which the flows can be worked out
pub record Workable (main : ℕ) (ls : List Line) : Type 0 where
  pub numbered : Numbered ls
  pub ordered : programs.Ordered (program_of main ls) (map line_flow ls)
