-- Expressions as trees: what the cells of a block list in postfix order.
use Rattle.std.specs.Prelude.{◌≡◌, ℕ, ◌+◌, ◌≤◌, max, Bool, cond, List, [], ◌∷◌, ◌++◌, length, ℤ, Some, None, Option, nat_le}
use Rattle.syntax.specs.declared.cell.Cell.{Cell}
use Rattle.syntax.specs.declared.cell.Cell.TheVariants.{Flow, Truth, Number, Unary, Binary, When, Merge, If}
use Rattle.syntax.specs.declared.cell.UnaryOp.{UnaryOp}

-- an expression: a flow, a constant, an operation, or a value kept where a flow has a side
pub data Exp : Type 0 where
  flow : ℕ → Exp
  truth : Bool → Exp
  number : ℤ → Exp
  unary : UnaryOp → Exp → Exp
  binary : ℕ → Exp → Exp → Exp
  when : Exp → ℕ → Bool → Exp

-- a control expression: an expression, or a choice between two control expressions, by a flow on whose
-- sides they lie or by a condition
pub data Control : Type 0 where
  simple : Exp → Control
  merge : ℕ → Control → Control → Control
  choose : Exp → Control → Control → Control

-- the cells that list a tree: its parts, and then what is done with them
abbrev pub exp_cells : Exp → List Cell
exp_cells (flow n) = Flow n ∷ []
exp_cells (truth b) = Truth b ∷ []
exp_cells (number z) = Number z ∷ []
exp_cells (unary o e) = exp_cells e ++ (Unary o ∷ [])
exp_cells (binary o a b) = exp_cells a ++ (exp_cells b ++ (Binary o ∷ []))
exp_cells (when e n s) = exp_cells e ++ (When n s ∷ [])

abbrev pub control_cells : Control → List Cell
control_cells (simple e) = exp_cells e
control_cells (merge n a b) = control_cells a ++ (control_cells b ++ (Merge n ∷ []))
control_cells (choose c a b) = exp_cells c ++ (control_cells a ++ (control_cells b ++ (If ∷ [])))

-- how many values wait at most while a tree is worked out part by part
abbrev pub exp_waiting : Exp → ℕ
exp_waiting (flow n) = 1
exp_waiting (truth b) = 1
exp_waiting (number z) = 1
exp_waiting (unary o e) = exp_waiting e
exp_waiting (binary o a b) = max (exp_waiting a) (1 + exp_waiting b)
exp_waiting (when e n s) = exp_waiting e

abbrev pub control_waiting : Control → ℕ
control_waiting (simple e) = exp_waiting e
control_waiting (merge n a b) = max (control_waiting a) (1 + control_waiting b)
control_waiting (choose c a b) = max (exp_waiting c) (max (1 + control_waiting a) (2 + control_waiting b))

-- these cells list this tree, and at most 8 values wait
pub record Lists (cells : List Cell) (t : Control) : Type 0 where
  pub listed : control_cells t ≡ cells
  pub few : control_waiting t ≤ 8

-- The tree that cells list, found cell by cell. What waits is a list of trees, the latest first.

-- a waiting tree that is an expression
abbrev pub on_exp : {A : Type 0} → Control → (Exp → Option A) → Option A
on_exp (simple e) k = k e
on_exp (merge n a b) k = None
on_exp (choose c a b) k = None

abbrev pub one_part : (Exp → Exp) → List Control → Option (List Control)
one_part f [] = None
one_part f (a ∷ ts) = on_exp a (λ x. Some (simple (f x) ∷ ts))

abbrev pub two_parts : (Exp → Exp → Exp) → List Control → Option (List Control)
two_parts f [] = None
two_parts f (b ∷ []) = None
two_parts f (b ∷ a ∷ ts) = on_exp a (λ x. on_exp b (λ y. Some (simple (f x y) ∷ ts)))

abbrev pub two_sides : ℕ → List Control → Option (List Control)
two_sides n [] = None
two_sides n (b ∷ []) = None
two_sides n (b ∷ a ∷ ts) = Some (merge n a b ∷ ts)

abbrev pub two_branches : List Control → Option (List Control)
two_branches [] = None
two_branches (b ∷ []) = None
two_branches (b ∷ a ∷ []) = None
two_branches (b ∷ a ∷ c ∷ ts) = on_exp c (λ x. Some (choose x a b ∷ ts))

-- what waits after a cell
abbrev pub tree_step : Cell → List Control → Option (List Control)
tree_step (Flow n) ts = Some (simple (flow n) ∷ ts)
tree_step (Truth b) ts = Some (simple (truth b) ∷ ts)
tree_step (Number z) ts = Some (simple (number z) ∷ ts)
tree_step (Unary o) ts = one_part (unary o) ts
tree_step (Binary o) ts = two_parts (binary o) ts
tree_step (When n s) ts = one_part (λ x. when x n s) ts
tree_step (Merge n) ts = two_sides n ts
tree_step If ts = two_branches ts

abbrev pub few_waiting : {A B : Type 0} → Option (List A) → (List A → Option B) → Option B
few_waiting None k = None
few_waiting (Some ts) k = cond (nat_le (length ts) 8) (k ts) None

-- what waits after some cells, if they can be taken one by one and never more than 8 trees wait
unfoldable pub tree_run : List Cell → List Control → Option (List Control)
tree_run [] ts = Some ts
tree_run (c ∷ cs) ts = few_waiting (tree_step c ts) (λ us. tree_run cs us)

abbrev pub alone : {A : Type 0} → Option (List A) → Option A
alone None = None
alone (Some []) = None
alone (Some (t ∷ [])) = Some t
alone (Some (t ∷ u ∷ ts)) = None

unfoldable pub tree_of : List Cell → Option Control
tree_of cells = alone (tree_run cells [])

-- it is the tree that the cells list: the one tree, where there is one
pub record TreesAreListed : Type 0 where
  pub found : (cells : List Cell) (t : Control) → tree_of cells ≡ Some t → Lists cells t
  pub finds : (cells : List Cell) (t : Control) → Lists cells t → tree_of cells ≡ Some t
