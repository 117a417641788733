-- The flows of a tree and those of the cells that list it.
use Rattle.std.proofs.Common.{◌≡◌, List, [], ◌∷◌, ◌++◌, sym, refl, ap, ◌∙◌, ap₂}
use Rattle.std.proofs.lemmas.List.{append-nil, append_assoc}
use Rattle.syntax.specs.declared.cell.Cell.{Cell}
use Rattle.syntax.specs.declared.cell.Cell.TheVariants.{Unary, Binary, When, Merge, If}
use Rattle.rules.specs.Names.{cell_flows}
use Rattle.rules.specs.Definitions.{cells_flows}
use Rattle.rules.specs.Trees.{Exp, flow, truth, number, unary, binary, when, simple, merge, choose, exp_cells, control_cells}
use Rattle.flat.specs.Programs.{exp_flows}
use Rattle.flat.specs.Listings.{FlowsAreListed}

-- the flows of two lists of cells
both : (xs ys : List Cell) → cells_flows (xs ++ ys) ≡ cells_flows xs ++ cells_flows ys
both [] ys = refl
both (c ∷ xs) ys = ap (λ ns. cell_flows c ++ ns) (both xs ys) ∙ sym (append_assoc (cell_flows c) (cells_flows xs) (cells_flows ys))

last : (xs : List Cell) (c : Cell) → cells_flows (xs ++ (c ∷ [])) ≡ cells_flows xs ++ cell_flows c
last xs c = both xs (c ∷ []) ∙ ap (λ ns. cells_flows xs ++ ns) (append-nil (cell_flows c))

exp_listed : (e : Exp) → cells_flows (exp_cells e) ≡ exp_flows e
exp_listed (flow x) = refl
exp_listed (truth b) = refl
exp_listed (number z) = refl
exp_listed (unary o e) = last (exp_cells e) (Unary o) ∙ append-nil (cells_flows (exp_cells e)) ∙ exp_listed e
exp_listed (binary o e f) =
    both (exp_cells e) (exp_cells f ++ (Binary o ∷ []))
    ∙ ap₂ ◌++◌ (exp_listed e) (last (exp_cells f) (Binary o) ∙ append-nil (cells_flows (exp_cells f)) ∙ exp_listed f)
exp_listed (when e x s) = last (exp_cells e) (When x s) ∙ ap (λ ns. ns ++ (x ∷ [])) (exp_listed e)

pub flows_are_listed : FlowsAreListed
flows_are_listed (simple e) = exp_listed e
flows_are_listed (merge x c d) =
    both (control_cells c) (control_cells d ++ (Merge x ∷ []))
    ∙ ap₂ ◌++◌ (flows_are_listed c) (last (control_cells d) (Merge x) ∙ ap (λ ns. ns ++ (x ∷ [])) (flows_are_listed d))
flows_are_listed (choose e c d) =
    both (exp_cells e) (control_cells c ++ (control_cells d ++ (If ∷ [])))
    ∙ ap₂ ◌++◌ (exp_listed e)
    (both (control_cells c) (control_cells d ++ (If ∷ []))
    ∙ ap₂ ◌++◌ (flows_are_listed c) (last (control_cells d) If ∙ append-nil (cells_flows (control_cells d)) ∙ flows_are_listed d))
