-- The kind of an expression.
use Rattle.std.specs.Prelude.{ℕ, ◌+◌, Bool, true, false, cond, ◌&&◌, Some, None, Option, nat_le}
use Rattle.syntax.specs.declared.cell.UnaryOp.{UnaryOp}
use Rattle.syntax.specs.declared.cell.UnaryOp.TheVariants.{Not, Minus}
use Rattle.syntax.specs.declared.header.Kind.{Kind}
use Rattle.syntax.specs.declared.header.Kind.TheVariants as kind
use Rattle.syntax.specs.declared.header.DerivedClock.{DerivedClock}
use Rattle.syntax.specs.Constants.{constant_kind}
use Rattle.syntax.specs.Syntax.{FormSyntax, NodeSyntax, BlockSyntax, plain, delay, call}
use Rattle.std.specs.List.{list_all}
use Rattle.rules.specs.Every.{every_from}
use Rattle.rules.specs.Names.{node_at, flow_kind}
use Rattle.rules.specs.Shared.{is_this, shared, where_true}
use Rattle.rules.specs.Trees.{Exp, Control, flow, truth, number, unary, binary, when, simple, merge, choose, tree_of}

abbrev pub same_kind : Kind → Kind → Bool
same_kind kind.Truth kind.Truth = true
same_kind kind.Truth kind.Number = false
same_kind kind.Number kind.Truth = false
same_kind kind.Number kind.Number = true

-- there is a kind, and it is this one
abbrev pub of_kind : Option Kind → Kind → Bool
of_kind a k = is_this same_kind a k

-- a kind, where a test holds
abbrev pub kind_if : Bool → Kind → Option Kind
kind_if t k = where_true t (Some k)

-- not takes a truth and gives one, minus a number
abbrev pub unary_kind : UnaryOp → Option Kind → Option Kind
unary_kind Not a = kind_if (of_kind a kind.Truth) kind.Truth
unary_kind Minus a = kind_if (of_kind a kind.Number) kind.Number

-- and, or and xor (0 to 2) work on truths; plus, less, times and quotient (3 to 6) work on numbers; below and
-- same (7 and 8) compare numbers and give a truth
abbrev pub binary_kind : ℕ → Option Kind → Option Kind → Option Kind
binary_kind o a b =
    cond (nat_le o 2) (kind_if (of_kind a kind.Truth && of_kind b kind.Truth) kind.Truth)
    (cond (nat_le o 6) (kind_if (of_kind a kind.Number && of_kind b kind.Number) kind.Number)
    (cond (nat_le o 8) (kind_if (of_kind a kind.Number && of_kind b kind.Number) kind.Truth) None))

-- the kind of both, where they share one
abbrev pub shared_kind : Option Kind → Option Kind → Option Kind
shared_kind a b = shared same_kind a b

-- what is asked of a truth, and then a kind
abbrev pub under_truth : Option Kind → Option Kind → Option Kind
under_truth t a = where_true (of_kind t kind.Truth) a

-- the kind of a tree, where it has one
abbrev pub exp_kind : NodeSyntax → Exp → Option Kind
exp_kind n (flow x) = Some (flow_kind n x)
exp_kind n (truth b) = Some kind.Truth
exp_kind n (number z) = Some kind.Number
exp_kind n (unary o e) = unary_kind o (exp_kind n e)
exp_kind n (binary o a b) = binary_kind o (exp_kind n a) (exp_kind n b)
exp_kind n (when e x s) = under_truth (Some (flow_kind n x)) (exp_kind n e)

abbrev pub control_kind : NodeSyntax → Control → Option Kind
control_kind n (simple e) = exp_kind n e
control_kind n (merge x a b) = under_truth (Some (flow_kind n x)) (shared_kind (control_kind n a) (control_kind n b))
control_kind n (choose c a b) = under_truth (exp_kind n c) (shared_kind (control_kind n a) (control_kind n b))

abbrev pub kind_of : NodeSyntax → Option Control → Option Kind
kind_of n None = None
kind_of n (Some t) = control_kind n t

-- the flows of derived clocks are truths
abbrev pub clocks_are_truths : NodeSyntax → Bool
clocks_are_truths n = list_all (λ (d : DerivedClock). same_kind (flow_kind n d.flow) kind.Truth) n.clocks

-- a flow has the kind of its expression and of its first value; results and arguments have, in order, the
-- kinds of the callee's outputs and inputs
abbrev pub form_kinded : BlockSyntax → NodeSyntax → FormSyntax → Bool
form_kinded b n (plain f e) = of_kind (kind_of n (tree_of e)) (flow_kind n f)
form_kinded b n (delay f v e) = same_kind (constant_kind v) (flow_kind n f) && of_kind (kind_of n (tree_of e)) (flow_kind n f)
form_kinded b n (call m rs es) =
    every_from (λ i r. same_kind (flow_kind n r) (flow_kind (node_at b m) ((node_at b m).inputs + i))) 0 rs
    && every_from (λ i e. of_kind (kind_of n (tree_of e)) (flow_kind (node_at b m) i)) 0 es
