-- What ordering a node's equations answers.
use Rattle.std.specs.Prelude.{ℕ, Some, None, Option}
use Rattle.layout.specs.Vectors.{Items}
use Rattle.syntax.specs.Syntax.{NodeSyntax}
use Rattle.rules.specs.Definitions.{RestsOn, ByChain, NoCycle, Ordered}

-- an order of the equations, and then no flow rests on itself; or none, and then one does
abbrev pub OrderAnswer : NodeSyntax → Option (Items ℕ) → Type 0
OrderAnswer n (Some order) = Ordered n order.items × NoCycle n
OrderAnswer n None = (x : ℕ) × ByChain (RestsOn n) x x
