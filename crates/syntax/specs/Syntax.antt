-- A block as lists: what its bits stand for, and what the rows of a block that was read stand for.
use Rattle.std.specs.Prelude.{ℕ, List}
use Rattle.syntax.specs.declared.cell.Cell.{Cell}
use Rattle.syntax.specs.declared.header.Flow.{Flow}
use Rattle.syntax.specs.declared.header.DerivedClock.{DerivedClock}
use Rattle.syntax.specs.declared.header.Constant.{Constant}

-- an expression: its cells in postfix order
abbrev pub Expression : Type 0
Expression = List Cell

-- what an equation says: a flow is an expression; a flow is a first value and then, a beat late, an
-- expression; the result flows are what a node makes of the arguments
pub data FormSyntax : Type 0 where
  plain : ℕ → Expression → FormSyntax
  delay : ℕ → Constant → Expression → FormSyntax
  call : ℕ → List ℕ → List Expression → FormSyntax

pub record EquationSyntax : Type 0 where
  pub clock : ℕ
  pub form : FormSyntax

-- a node: how many of its flows are inputs, outputs and locals, in this order; its flows, its derived
-- clocks, which are numbered from 1, and its equations
pub record NodeSyntax : Type 0 where
  pub inputs : ℕ
  pub outputs : ℕ
  pub locals : ℕ
  pub flows : List Flow
  pub clocks : List DerivedClock
  pub equations : List EquationSyntax

-- a block: its nodes, of which the last is the main one
abbrev pub BlockSyntax : Type 0
BlockSyntax = List NodeSyntax
