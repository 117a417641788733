-- The clock of an expression.
use Rattle.std.specs.Prelude.{ℕ, ◌+◌, Bool, true, false, not, ◌&&◌, ◌||◌, length, take, position, is_some, Some, None, Option, ◌==◌, nat_eq, nat_lt}
use Rattle.std.specs.Option.{option_map}
use Rattle.syntax.specs.declared.header.Flow as flow
use Rattle.syntax.specs.declared.header.DerivedClock.{DerivedClock}
use Rattle.syntax.specs.Syntax.{FormSyntax, NodeSyntax, BlockSyntax, plain, delay, call}
use Rattle.std.specs.List.{list_all}
use Rattle.rules.specs.Every.{every_from}
use Rattle.rules.specs.Names.{flow_clock, clock_flows}
use Rattle.rules.specs.Shared.{is_this, shared, where_true}
use Rattle.rules.specs.Trees.{Exp, Control, flow, truth, number, unary, binary, when, simple, merge, choose, tree_of}

abbrev pub same_side : Bool → Bool → Bool
same_side true s = s
same_side false s = not s

-- derived from this parent by this side of this flow
abbrev pub derives : DerivedClock → ℕ → ℕ → Bool → Bool
derives d p x s = d.parent == p && (d.flow == x && same_side d.side s)

-- the derived clock by a side of a flow; its parent is the flow's clock. Clocks are numbered from 1
abbrev pub side_clock : NodeSyntax → ℕ → Bool → Option ℕ
side_clock n x s = option_map (λ i. i + 1) (position (λ d. derives d (flow_clock n x) x s) n.clocks)

-- there is a clock, and it is this one
abbrev pub on_clock : Option ℕ → ℕ → Bool
on_clock a k = is_this nat_eq a k

-- the clock that parts share
abbrev pub shared_clock : Option ℕ → Option ℕ → Option ℕ
shared_clock a b = shared nat_eq a b

-- there are both, and they are one
abbrev pub same_clock : Option ℕ → Option ℕ → Bool
same_clock a b = is_some (shared_clock a b)

-- when takes a part on its flow's clock and gives the side's clock
abbrev pub when_clock : NodeSyntax → ℕ → Bool → Option ℕ → Option ℕ
when_clock n x s a = where_true (on_clock a (flow_clock n x)) (side_clock n x s)

-- merge takes its branches from the two sides of its flow and is on the flow's clock
abbrev pub merge_clock : NodeSyntax → ℕ → Option ℕ → Option ℕ → Option ℕ
merge_clock n x a b = where_true (same_clock a (side_clock n x true) && same_clock b (side_clock n x false)) (Some (flow_clock n x))

-- the clock of a tree, where it has one: a constant is on the base, and the parts of an operation share a clock
abbrev pub exp_clock : NodeSyntax → Exp → Option ℕ
exp_clock n (flow x) = Some (flow_clock n x)
exp_clock n (truth b) = Some 0
exp_clock n (number z) = Some 0
exp_clock n (unary o e) = exp_clock n e
exp_clock n (binary o a b) = shared_clock (exp_clock n a) (exp_clock n b)
exp_clock n (when e x s) = when_clock n x s (exp_clock n e)

abbrev pub control_clock : NodeSyntax → Control → Option ℕ
control_clock n (simple e) = exp_clock n e
control_clock n (merge x a b) = merge_clock n x (control_clock n a) (control_clock n b)
control_clock n (choose c a b) = shared_clock (exp_clock n c) (shared_clock (control_clock n a) (control_clock n b))

abbrev pub clock_of : NodeSyntax → Option Control → Option ℕ
clock_of n None = None
clock_of n (Some t) = control_clock n t

-- an input's clock goes by inputs alone
abbrev pub inputs_by_inputs : NodeSyntax → Bool
inputs_by_inputs n = list_all (λ (f : flow.Flow). list_all (λ x. nat_lt x n.inputs) (clock_flows n f.clock)) (take n.inputs n.flows)

-- inputs and outputs are on the base
abbrev pub ends_on_base : NodeSyntax → Bool
ends_on_base n = list_all (λ (f : flow.Flow). (f.clock == 0)) (take (n.inputs + n.outputs) n.flows)

-- node k is the main one, which is the last
abbrev pub is_main : BlockSyntax → ℕ → Bool
is_main b k = k + 1 == length b

-- inputs and outputs of every node but the main one are on the base
abbrev pub flows_clocked : BlockSyntax → ℕ → NodeSyntax → Bool
flows_clocked b k n = inputs_by_inputs n && (is_main b k || ends_on_base n)

-- a derived clock's flow is on its parent, and no two derived clocks are alike
abbrev pub alike : DerivedClock → DerivedClock → Bool
alike d e = derives d e.parent e.flow e.side

abbrev pub clocks_clocked : NodeSyntax → Bool
clocks_clocked n =
    every_from (λ i d. (flow_clock n d.flow == d.parent) && list_all (λ e. not (alike e d)) (take i n.clocks)) 0 n.clocks

-- what an equation defines and its expressions are on its clock
abbrev pub form_clocked : NodeSyntax → ℕ → FormSyntax → Bool
form_clocked n k (plain f e) = flow_clock n f == k && on_clock (clock_of n (tree_of e)) k
form_clocked n k (delay f v e) = flow_clock n f == k && on_clock (clock_of n (tree_of e)) k
form_clocked n k (call m rs es) = list_all (λ r. nat_eq (flow_clock n r) k) rs && list_all (λ e. on_clock (clock_of n (tree_of e)) k) es
