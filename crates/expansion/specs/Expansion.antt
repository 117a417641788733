-- The expansion of a block: each call stands for the equations of its node.
use Rattle.std.specs.Prelude.{cond, List, [], ◌∷◌, ◌++◌, map, ℕ, zero, suc, ◌+◌, ◌-◌, eqb, ltb, length, get_or}
use Rattle.syntax.specs.declared.cell.Cell.{Cell}
use Rattle.syntax.specs.declared.cell.Cell.TheVariants.{Flow, Truth, Number, Unary, Binary, When, Merge, If}
use Rattle.syntax.specs.Syntax.{Expression, FormSyntax, EquationSyntax, NodeSyntax, BlockSyntax}
use Rattle.syntax.specs.Syntax as syntax
use Rattle.layout.specs.Blanks.{blank_clock}
use Rattle.rules.specs.Names.{node_at, equation_at, flow_kind, flow_clock}
use Rattle.flat.specs.declared.row.Clock.{Clock}
use Rattle.flat.specs.declared.row.Clock.TheVariants.{Base, On}
use Rattle.program.specs.Lines.{Line, Origin, input, plain, delay}

-- where the copy of a node stands in the program: its inputs are the flows from `base` on and its locals those
-- after them, its outputs are the results of the call, and its base clock is the clock of the call
pub record Frame : Type 0 where
  pub base : ℕ
  pub inputs : ℕ
  pub outputs : ℕ
  pub results : List ℕ
  pub clock : Clock

-- the program's flow that flow x of the node is
abbrev pub place : Frame → ℕ → ℕ
place c x =
    cond (ltb x c.inputs) (c.base + x)
    (cond (ltb (x - c.inputs) c.outputs) (get_or c.results (x - c.inputs) 0) (c.base + (x - c.outputs)))

-- the main node stands for itself
abbrev pub main_frame : Frame
main_frame = record { base = 0; inputs = 0; outputs = 0; results = []; clock = Base }

abbrev pub placed_cell : Frame → Cell → Cell
placed_cell c (Flow x) = Flow (place c x)
placed_cell c (Truth b) = Truth b
placed_cell c (Number z) = Number z
placed_cell c (Unary o) = Unary o
placed_cell c (Binary o) = Binary o
placed_cell c (When x s) = When (place c x) s
placed_cell c (Merge x) = Merge (place c x)
placed_cell c If = If

abbrev pub placed : Frame → Expression → Expression
placed c e = map (placed_cell c) e

-- the program's clock that clock k of node n is
abbrev pub clock_in : Frame → NodeSyntax → ℕ → Clock
clock_in c n k =
    cond (eqb k 0) c.clock (On (place c (get_or n.clocks (k - 1) blank_clock).flow) (get_or n.clocks (k - 1) blank_clock).side)

-- the line of flow x of node n, which an equation on clock k defines
abbrev pub line_at : Frame → NodeSyntax → ℕ → ℕ → Origin → Line
line_at c n k x o = record { flow = place c x; kind = flow_kind n x; clock = clock_in c n k; origin = o }

-- what a part of a block is expanded to: lines, and the number that the next new flow has
pub record Emission : Type 0 where
  pub lines : List Line
  pub next : ℕ

abbrev pub Expander : Type 0
Expander = Frame → ℕ → Emission

abbrev pub one_line : Line → ℕ → Emission
one_line l next = record { lines = l ∷ []; next = next }

abbrev pub then_lines : Emission → (ℕ → Emission) → Emission
then_lines a k = record { lines = a.lines ++ (k a.next).lines; next = (k a.next).next }

-- the arguments of a call on clock k of node n: input i of the callee m and those after it are new plain flows
unfoldable pub argument_lines : Frame → NodeSyntax → ℕ → NodeSyntax → ℕ → ℕ → List Expression → List Line
argument_lines c n k m next i [] = []
argument_lines c n k m next i (e ∷ es) =
    record { flow = next + i; kind = flow_kind m i; clock = clock_in c n k; origin = plain (placed c e) }
    ∷ argument_lines c n k m next (i + 1) es

-- where the copy of a callee stands
abbrev pub callee_frame : Frame → NodeSyntax → ℕ → NodeSyntax → ℕ → List ℕ → Frame
callee_frame c n k m next rs = record { base = next; inputs = m.inputs; outputs = m.outputs; results = map (place c) rs; clock = clock_in c n k }

-- an equation on clock k of node n, where `sub` expands the earlier nodes
abbrev pub form_lines : BlockSyntax → (ℕ → Expander) → Frame → NodeSyntax → ℕ → ℕ → FormSyntax → Emission
form_lines b sub c n k next (syntax.plain f e) = one_line (line_at c n k f (plain (placed c e))) next
form_lines b sub c n k next (syntax.delay f v e) = one_line (line_at c n k f (delay v (placed c e))) next
form_lines b sub c n k next (syntax.call m rs es) =
    then_lines
    (record { lines = argument_lines c n k (node_at b m) next 0 es; next = next + (node_at b m).inputs + (node_at b m).locals })
    (sub m (callee_frame c n k (node_at b m) next rs))

-- the equations of node n, in the given order
unfoldable pub node_lines : BlockSyntax → (ℕ → Expander) → Frame → NodeSyntax → List ℕ → ℕ → Emission
node_lines b sub c n [] next = record { lines = []; next = next }
node_lines b sub c n (i ∷ is) next =
    then_lines (form_lines b sub c n (equation_at n i).clock next (equation_at n i).form) (node_lines b sub c n is)

-- an order of the equations of each node
abbrev pub Orders : Type 0
Orders = List (List ℕ)

-- node k, where it is one of the first n
unfoldable pub expand_below : BlockSyntax → Orders → ℕ → ℕ → Expander
expand_below b orders zero k c next = record { lines = []; next = next }
expand_below b orders (suc n) k c next =
    cond (eqb k n) (node_lines b (expand_below b orders n) c (node_at b n) (get_or orders n []) next) (expand_below b orders n k c next)

-- node k, whose callees are earlier nodes
abbrev pub expand_node : BlockSyntax → Orders → ℕ → Expander
expand_node b orders k c next = node_lines b (expand_below b orders k) c (node_at b k) (get_or orders k []) next

-- an input of the main node
abbrev pub input_line : NodeSyntax → ℕ → Line
input_line n i = record { flow = i; kind = flow_kind n i; clock = clock_in main_frame n (flow_clock n i); origin = input }

-- those on clock k, from input i on, so many looked at
unfoldable pub inputs_on : NodeSyntax → ℕ → ℕ → ℕ → List Line
inputs_on n k i zero = []
inputs_on n k i (suc left) = cond (eqb (flow_clock n i) k) (input_line n i ∷ inputs_on n k (i + 1) left) (inputs_on n k (i + 1) left)

-- all of them, by their clocks from clock k on, so many: an input comes after those that its clock goes by
unfoldable pub input_lines : NodeSyntax → ℕ → ℕ → List Line
input_lines n k zero = []
input_lines n k (suc left) = inputs_on n k 0 n.inputs ++ input_lines n (k + 1) left

abbrev pub main_of : BlockSyntax → ℕ
main_of b = length b - 1

-- the expansion of a block: the inputs of its main node by their clocks, then its equations; the flows of the main node keep
-- their numbers
abbrev pub expansion : BlockSyntax → Orders → List Line
expansion b orders =
    input_lines (node_at b (main_of b)) 0 (suc (length (node_at b (main_of b)).clocks))
    ++ (expand_node b orders (main_of b) main_frame (length (node_at b (main_of b)).flows)).lines

-- how many of its flows are main ones
abbrev pub main_flows : BlockSyntax → ℕ
main_flows b = (node_at b (main_of b)).inputs + (node_at b (main_of b)).outputs
