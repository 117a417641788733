-- The kinds and clocks of the trees that wait, found cell by cell with no trees.
use Rattle.std.specs.Prelude.{ℕ, Bool, true, false, List, [], ◌∷◌, Some, None, Option}
use Rattle.syntax.specs.declared.cell.Cell.{Cell}
use Rattle.syntax.specs.declared.cell.Cell.TheVariants.{Flow, Truth, Number, Unary, Binary, When, Merge, If}
use Rattle.syntax.specs.declared.cell.UnaryOp.{UnaryOp}
use Rattle.syntax.specs.declared.header.Kind.{Kind}
use Rattle.syntax.specs.declared.header.Kind.TheVariants as kind
use Rattle.syntax.specs.Syntax.{NodeSyntax}
use Rattle.rules.specs.Names.{flow_kind, flow_clock}
use Rattle.rules.specs.Kinds.{unary_kind, binary_kind, shared_kind, under_truth, control_kind}
use Rattle.rules.specs.Clocks.{shared_clock, when_clock, merge_clock, control_clock}
use Rattle.rules.specs.Trees.{Control, simple, merge, choose}
use Rattle.typing.specs.declared.part.Part.{Part}
use Rattle.typing.specs.Stack.{Step, next, ◌>>=◌, push, take_part, take_plain, alone_part}

-- a merge or an if
abbrev pub is_control : Control → Bool
is_control (simple e) = false
is_control (merge x a b) = true
is_control (choose c a b) = true

-- what is known of a tree
abbrev pub part_of : NodeSyntax → Control → Part
part_of n t = record { control = is_control t; kind = control_kind n t; clock = control_clock n t }

-- What is known of a tree from what is known of its parts.

-- a flow has its own kind and clock
abbrev pub flow_part : NodeSyntax → ℕ → Part
flow_part n x = record { control = false; kind = Some (flow_kind n x); clock = Some (flow_clock n x) }

-- a constant is on the base
abbrev pub constant_part : Kind → Part
constant_part k = record { control = false; kind = Some k; clock = Some 0 }

-- an operation on one part
abbrev pub unary_part : UnaryOp → Part → Part
unary_part o a = record { control = false; kind = unary_kind o a.kind; clock = a.clock }

-- an operation on two
abbrev pub binary_part : ℕ → Part → Part → Part
binary_part o a b = record { control = false; kind = binary_kind o a.kind b.kind; clock = shared_clock a.clock b.clock }

-- a part kept where a flow has a side
abbrev pub when_part : NodeSyntax → ℕ → Bool → Part → Part
when_part n x s a = record {
  control = false;
  kind = under_truth (Some (flow_kind n x)) a.kind;
  clock = when_clock n x s a.clock;
}

-- a choice by a flow between its true and its false side
abbrev pub merge_part : NodeSyntax → ℕ → Part → Part → Part
merge_part n x a b = record {
  control = true;
  kind = under_truth (Some (flow_kind n x)) (shared_kind a.kind b.kind);
  clock = merge_clock n x a.clock b.clock;
}

-- a choice by a condition
abbrev pub choice_part : Part → Part → Part → Part
choice_part c a b = record {
  control = true;
  kind = under_truth c.kind (shared_kind a.kind b.kind);
  clock = shared_clock c.clock (shared_clock a.clock b.clock);
}

-- What a cell takes from the stack, the latest first, and puts onto it.

-- an operation takes a plain part
abbrev pub unary_step : UnaryOp → Step (Unit {0})
unary_step o = do
  a ← take_plain
  push (unary_part o a)

-- or two, the right one first
abbrev pub binary_step : ℕ → Step (Unit {0})
binary_step o = do
  b ← take_plain
  a ← take_plain
  push (binary_part o a b)

-- when takes a plain part
abbrev pub when_step : NodeSyntax → ℕ → Bool → Step (Unit {0})
when_step n x s = do
  a ← take_plain
  push (when_part n x s a)

-- merge takes its false branch and then its true one, of any shape
abbrev pub merge_step : NodeSyntax → ℕ → Step (Unit {0})
merge_step n x = do
  b ← take_part
  a ← take_part
  push (merge_part n x a b)

-- if takes its two branches, of any shape, and then its plain condition
abbrev pub choice_step : Step (Unit {0})
choice_step = do
  b ← take_part
  a ← take_part
  c ← take_plain
  push (choice_part c a b)

-- what waits after a cell
abbrev pub part_step : NodeSyntax → Cell → Step (Unit {0})
part_step n (Flow x) = push (flow_part n x)
part_step n (Truth b) = push (constant_part kind.Truth)
part_step n (Number z) = push (constant_part kind.Number)
part_step n (Unary o) = unary_step o
part_step n (Binary o) = binary_step o
part_step n (When x s) = when_step n x s
part_step n (Merge x) = merge_step n x
part_step n If = choice_step

-- what waits after some cells
unfoldable pub part_run : NodeSyntax → List Cell → Step (Unit {0})
part_run n [] ps = Some (tt, ps)
part_run n (c ∷ cs) ps = next (part_step n c ps) (λ u. part_run n cs)

-- the part that waits alone, if one does
abbrev pub alone_after : Option (Unit {0} × List Part) → Option Part
alone_after None = None
alone_after (Some r) = alone_part r.1
