-- Expanded programs: one row for each flow, and which flows a row names.
use Rattle.std.specs.Prelude.{◌≡◌, ℕ, zero, suc, ◌<◌, List, [], ◌∷◌, ◌++◌, length, slice_index, slice_index_or}
use Rattle.std.specs.List.{AllByRecursion}
use Rattle.syntax.specs.declared.header.Kind.{Kind}
use Rattle.syntax.specs.declared.header.Kind.TheVariants as kind
use Rattle.syntax.specs.declared.header.Constant.{Constant}
use Rattle.rules.specs.Trees.{Exp, Control, flow, truth, number, unary, binary, when, simple, merge, choose}
use Rattle.flat.specs.declared.row.Clock.{Clock}
use Rattle.flat.specs.declared.row.Clock.TheVariants.{Base, On}

-- what a flow is where it is present: its reading; the value of an expression; or at first a constant, and
-- later what the expression was when the flow was last present
pub data Definition : Type 0 where
  input : Definition
  plain : Control → Definition
  delay : Constant → Exp → Definition

pub record Row : Type 0 where
  pub kind : Kind
  pub clock : Clock
  pub definition : Definition

-- the rows of the flows in the order of their numbers; the first flows, so many, are the main ones, the
-- inputs and outputs, and all others are inner
pub record Program : Type 0 where
  pub main : ℕ
  pub rows : List Row

abbrev pub size : Program → ℕ
size p = length p.rows

-- what stands where a number names no flow; no row of an expanded program names such a number
abbrev pub no_row : Row
no_row = record { kind = kind.Truth; clock = Base; definition = input }

abbrev pub row : Program → ℕ → Row
row p x = slice_index_or p.rows x no_row

-- the flows that an expression names, those of when and merge with them
abbrev pub exp_flows : Exp → List ℕ
exp_flows (flow x) = x ∷ []
exp_flows (truth b) = []
exp_flows (number z) = []
exp_flows (unary o e) = exp_flows e
exp_flows (binary o a b) = exp_flows a ++ exp_flows b
exp_flows (when e x s) = exp_flows e ++ (x ∷ [])

abbrev pub control_flows : Control → List ℕ
control_flows (simple e) = exp_flows e
control_flows (merge x a b) = control_flows a ++ (control_flows b ++ (x ∷ []))
control_flows (choose c a b) = exp_flows c ++ (control_flows a ++ control_flows b)

-- the flow that a clock names itself
abbrev pub clock_flow : Clock → List ℕ
clock_flow Base = []
clock_flow (On x s) = x ∷ []

-- the flows that a clock goes by, its own and those of its parents down to the base, at most so many
abbrev pub chain : Program → ℕ → Clock → List ℕ
chain p zero k = []
chain p (suc most) Base = []
chain p (suc most) (On x s) = x ∷ chain p most (row p x).clock

-- all of them: a chain has at most as many flows as the program
abbrev pub clock_flows : Program → Clock → List ℕ
clock_flows p k = chain p (size p) k

-- the flows that a flow's answer needs at the same beat; what a delay's expression names is not among them
abbrev pub needs_of : Clock → Definition → List ℕ
needs_of k input = clock_flow k
needs_of k (plain c) = clock_flow k ++ control_flows c
needs_of k (delay v e) = clock_flow k

abbrev pub needs : Program → ℕ → List ℕ
needs p x = needs_of (row p x).clock (row p x).definition

-- the flows that bear on a flow, at this beat or by what a delay keeps for later ones
abbrev pub sources_of : Program → Clock → Definition → List ℕ
sources_of p k input = clock_flows p k
sources_of p k (plain c) = clock_flows p k ++ control_flows c
sources_of p k (delay v e) = clock_flows p k ++ exp_flows e

abbrev pub sources : Program → ℕ → List ℕ
sources p x = sources_of p (row p x).clock (row p x).definition

-- an order of the flows: each stands in it, there are no more places than flows, and what a flow needs stands
-- before it; and every flow that is named is one of the program
pub record Ordered (p : Program) (order : List ℕ) : Type 0 where
  pub all : length order ≡ size p
  pub stands : (x : ℕ) → x < size p → (i : ℕ) × (i < length order) × (slice_index order i ≡ x)
  pub after : (i : ℕ) → i < length order → AllByRecursion (λ d. (j : ℕ) × (j < i) × (slice_index order j ≡ d)) (needs p (slice_index order i))
  pub named : (x : ℕ) → x < size p → AllByRecursion (λ d. d < size p) (sources p x)
