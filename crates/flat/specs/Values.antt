-- The value of an expression, where each flow has its answer.
use Rattle.std.specs.Prelude.{ℕ, Bool, true, false, cond, not, ◌&&◌, ◌||◌, ℤ, pos, Some, None, Option, ◌==◌, nat_le}
use Rattle.std.specs.Ordering.{int_eq}
use Rattle.syntax.specs.declared.cell.UnaryOp.{UnaryOp}
use Rattle.syntax.specs.declared.cell.UnaryOp.TheVariants.{Not, Minus}
use Rattle.syntax.specs.declared.header.Kind.{Kind}
use Rattle.syntax.specs.declared.header.Kind.TheVariants as kind
use Rattle.syntax.specs.declared.header.Constant.{Constant}
use Rattle.syntax.specs.declared.header.Constant.TheVariants as constant
use Rattle.numbers.specs.Reckonings.{Reckonings, applied, compared}
use Rattle.rules.specs.Clocks.{same_side}
use Rattle.rules.specs.Trees.{Exp, Control, flow, truth, number, unary, binary, when, simple, merge, choose}
use Rattle.flat.specs.declared.row.Clock.{Clock}
use Rattle.flat.specs.declared.row.Clock.TheVariants.{Base, On}
use Rattle.flat.specs.declared.value.Value.{Value}
use Rattle.flat.specs.declared.value.Value.TheVariants.{Truth, Number}

-- what flows are at a beat: absent, or present with a value
abbrev pub Answers : Type 0 → Type 0
Answers N = ℕ → Option (Value N)

-- the value of a reading: a truth is true unless the reading is 0
abbrev pub read_as : {N : Type 0} → Reckonings N → Kind → ℤ → Value N
read_as r kind.Truth z = Truth (not (int_eq z (pos 0)))
read_as r kind.Number z = Number (r.take z)

abbrev pub constant_value : {N : Type 0} → Reckonings N → Constant → Value N
constant_value r (constant.Truth b) = Truth b
constant_value r (constant.Number z) = Number (r.take z)

-- present, with this truth
abbrev pub says : {N : Type 0} → Bool → Option (Value N) → Bool
says s None = false
says s (Some (Truth b)) = same_side s b
says s (Some (Number n)) = false

-- a value where a test holds, else absence
abbrev pub gate : {N : Type 0} → Bool → Option (Value N) → Option (Value N)
gate t v = cond t v None

-- and, or and xor of truths, by their codes 0 to 2
abbrev pub logical : ℕ → Bool → Bool → Option Bool
logical o a b =
    cond (o == 0) (Some (a && b))
    (cond (o == 1) (Some (a || b))
    (cond (o == 2) (Some (cond a (not b) b)) None))

abbrev pub as_truth : {N : Type 0} → Option Bool → Option (Value N)
as_truth None = None
as_truth (Some b) = Some (Truth b)

abbrev pub as_number : {N : Type 0} → Option N → Option (Value N)
as_number None = None
as_number (Some n) = Some (Number n)

-- not of a truth, minus of a number; what has no meaning is absent
abbrev pub unary_value : {N : Type 0} → Reckonings N → UnaryOp → Option (Value N) → Option (Value N)
unary_value r o None = None
unary_value r Not (Some (Truth b)) = Some (Truth (not b))
unary_value r Not (Some (Number n)) = None
unary_value r Minus (Some (Truth b)) = None
unary_value r Minus (Some (Number n)) = Some (Number (r.minus n))

-- and, or, xor of truths; plus, less, times, quotient (3 to 6), below and same (7, 8) of numbers
abbrev pub combined : {N : Type 0} → Reckonings N → ℕ → Value N → Value N → Option (Value N)
combined r o (Truth a) (Truth b) = as_truth (logical o a b)
combined r o (Truth a) (Number b) = None
combined r o (Number a) (Truth b) = None
combined r o (Number a) (Number b) = cond (nat_le o 6) (as_number (applied r o a b)) (as_truth (compared r o a b))

abbrev pub binary_value : {N : Type 0} → Reckonings N → ℕ → Option (Value N) → Option (Value N) → Option (Value N)
binary_value r o None None = None
binary_value r o None (Some w) = None
binary_value r o (Some v) None = None
binary_value r o (Some v) (Some w) = combined r o v w

-- the one of two branches that a truth picks
abbrev pub picked : {N : Type 0} → Option (Value N) → Option (Value N) → Option (Value N) → Option (Value N)
picked None v w = None
picked (Some (Truth b)) v w = cond b v w
picked (Some (Number n)) v w = None

-- the value of an expression, and of a control expression
abbrev pub exp_value : {N : Type 0} → Reckonings N → Answers N → Exp → Option (Value N)
exp_value r a (flow x) = a x
exp_value r a (truth b) = Some (Truth b)
exp_value r a (number z) = Some (Number (r.take z))
exp_value r a (unary o e) = unary_value r o (exp_value r a e)
exp_value r a (binary o e f) = binary_value r o (exp_value r a e) (exp_value r a f)
exp_value r a (when e x s) = gate (says s (a x)) (exp_value r a e)

abbrev pub control_value : {N : Type 0} → Reckonings N → Answers N → Control → Option (Value N)
control_value r a (simple e) = exp_value r a e
control_value r a (merge x c d) = picked (a x) (control_value r a c) (control_value r a d)
control_value r a (choose e c d) = picked (exp_value r a e) (control_value r a c) (control_value r a d)

-- the base is present at every beat, a derived clock where its flow is present with its side
abbrev pub on : {N : Type 0} → Answers N → Clock → Bool
on a Base = true
on a (On x s) = says s (a x)
