-- Which flows are defined, how often, and by what.
use Rattle.std.specs.Prelude.{◌≡◌, ℕ, ◌<◌, Bool, cond, T, List, [], ◌++◌, length, count_by, ◌≢◌, nat_eq, nat_lt, slice_index}
use Rattle.std.specs.List.{flat_map}
use Rattle.syntax.specs.Syntax.{Expression, FormSyntax, EquationSyntax, NodeSyntax, plain, delay, call}
use Rattle.rules.specs.Every.{every_from, has}
use Rattle.rules.specs.Names.{cell_flows, clock_flows, defined_by, equation_at}

-- how often x stands in a list
abbrev pub times : ℕ → List ℕ → ℕ
times x ys = count_by (nat_eq x) ys

-- all that a node's equations define
abbrev pub defined : NodeSyntax → List ℕ
defined n = flat_map (λ (e : EquationSyntax). defined_by e.form) n.equations

-- an input is never defined, and every other flow is defined once
abbrev pub defined_once : NodeSyntax → Bool
defined_once n = every_from (λ x f. nat_eq (times x (defined n)) (cond (nat_lt x n.inputs) 0 1)) 0 n.flows

-- the flows that cells name
abbrev pub cells_flows : Expression → List ℕ
cells_flows e = flat_map cell_flows e

abbrev pub form_needs : FormSyntax → List ℕ
form_needs (plain f e) = cells_flows e
form_needs (delay f v e) = []
form_needs (call m rs es) = flat_map cells_flows es

-- the flows that an equation needs at the same beat: those that its clock goes by, and those in its cells,
-- unless it is a delay
abbrev pub needs : NodeSyntax → EquationSyntax → List ℕ
needs n e = clock_flows n e.clock ++ form_needs e.form

-- flow x rests on flow y: an equation that defines x needs y
abbrev pub RestsOn : NodeSyntax → ℕ → ℕ → Type 0
RestsOn n x y = (i : ℕ) × (i < length n.equations) × T (has x (defined_by (equation_at n i).form)) × T (has y (needs n (equation_at n i)))

-- by one step or by several
pub data ByChain (R : ℕ → ℕ → Type 0) : ℕ → ℕ → Type 0 where
  step : {x y : ℕ} → R x y → ByChain R x y
  onward : {x y z : ℕ} → R x y → ByChain R y z → ByChain R x z

-- no flow rests on itself by a chain
abbrev pub NoCycle : NodeSyntax → Type 0
NoCycle n = (x : ℕ) → ByChain (RestsOn n) x x → ⊥

-- an order of a node's equations: each stands in it once, and after every one that defines what it needs
pub record Ordered (n : NodeSyntax) (order : List ℕ) : Type 0 where
  pub all : length order ≡ length n.equations
  pub inside : (i : ℕ) → i < length order → slice_index order i < length n.equations
  pub apart : (i j : ℕ) → i < j → j < length order → slice_index order i ≢ slice_index order j
  pub covers : (e : ℕ) → e < length n.equations → (i : ℕ) × (i < length order) × (slice_index order i ≡ e)
  pub after : (i : ℕ) → i < length order → (d y : ℕ) → d < length n.equations
      → T (has y (needs n (equation_at n (slice_index order i)))) → T (has y (defined_by (equation_at n d).form))
      → (j : ℕ) × (j < i) × (slice_index order j ≡ d)
