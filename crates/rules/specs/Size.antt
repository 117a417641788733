-- How large the expansion of a node is, counted without expanding it.
use Rattle.std.specs.Prelude.{ℕ, ◌+◌, Bool, not, ◌&&◌, ◌||◌, List, [], ◌∷◌, ◌++◌, length, get_or, sum_by, nat_le, slice_index_or}
use Rattle.syntax.specs.Syntax.{Expression, FormSyntax, EquationSyntax, NodeSyntax, BlockSyntax, plain, delay, call}
use Rattle.rules.specs.Names.{node_at}
use Rattle.rules.specs.Clocks.{is_main}

-- the flows that the calls in a node add to its own, and the cells of the node with those of its calls
pub record Size : Type 0 where
  pub flows : ℕ
  pub cells : ℕ

abbrev pub no_size : Size
no_size = record { flows = 0; cells = 0 }

abbrev pub plus : Size → Size → Size
plus a b = record { flows = a.flows + b.flows; cells = a.cells + b.cells }

-- the cells of arguments
abbrev pub cells_in : List Expression → ℕ
cells_in es = sum_by (λ (e : Expression). length e) es

-- what an equation adds, where the sizes of the earlier nodes are known: a call adds a flow for each input
-- and each local of its callee, the cells of its arguments, and what the callee's own calls add
abbrev pub form_size : BlockSyntax → List Size → FormSyntax → Size
form_size b earlier (plain f e) = record { flows = 0; cells = length e }
form_size b earlier (delay f v e) = record { flows = 0; cells = length e }
form_size b earlier (call m rs es) =
    plus (record { flows = (node_at b m).inputs + (node_at b m).locals; cells = cells_in es }) (slice_index_or earlier m no_size)

unfoldable pub equations_size : BlockSyntax → List Size → List EquationSyntax → Size
equations_size b earlier [] = no_size
equations_size b earlier (e ∷ es) = plus (form_size b earlier e.form) (equations_size b earlier es)

-- the sizes of the nodes, each from those before it
unfoldable pub sizes_after : BlockSyntax → List Size → List NodeSyntax → List Size
sizes_after b earlier [] = earlier
sizes_after b earlier (n ∷ ns) = sizes_after b (earlier ++ (equations_size b earlier n.equations ∷ [])) ns

abbrev pub sizes : BlockSyntax → List Size
sizes b = sizes_after b [] b

-- the expansion of node k has at most 512 flows and 4,096 cells
abbrev pub small : BlockSyntax → ℕ → NodeSyntax → Bool
small b k n = nat_le (length n.flows + (get_or (sizes b) k no_size).flows) 512 && nat_le (get_or (sizes b) k no_size).cells 4096

-- asked of the main node alone
abbrev pub main_small : BlockSyntax → ℕ → NodeSyntax → Bool
main_small b k n = not (is_main b k) || small b k n
