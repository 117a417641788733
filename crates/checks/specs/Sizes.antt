-- Sizes as far as the machine's numbers reach.
use Rattle.std.specs.Prelude.{ℕ, List, [], length}
use Rattle.syntax.specs.Syntax.{Expression, BlockSyntax, call}
use Rattle.rules.specs.Size.{Size, form_size}
use Rattle.checks.specs.Sums.{capped}

-- a size with both its numbers capped
abbrev pub capped_size : Size → Size
capped_size s = record { flows = capped s.flows; cells = capped s.cells }

-- what an expression adds, and what a call adds, whatever its results
abbrev pub cells_size : Expression → Size
cells_size e = record { flows = 0; cells = length e }

abbrev pub call_size : BlockSyntax → List Size → ℕ → List Expression → Size
call_size b earlier m es = form_size b earlier (call m [] es)
