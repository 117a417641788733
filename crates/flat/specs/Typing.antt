-- Programs whose expressions have kinds and clocks, and that in these a flow is present just where its clock is.
use Rattle.std.specs.Prelude.{◌≡◌, ℕ, ◌<◌, ◌≤◌, Bool, true, false, cond, ◌&&◌, T, List, ℤ, Some, None, Option, nat_le}
use Rattle.std.specs.List.{AllByRecursion}
use Rattle.syntax.specs.declared.cell.UnaryOp.{UnaryOp}
use Rattle.syntax.specs.declared.cell.UnaryOp.TheVariants.{Not, Minus}
use Rattle.syntax.specs.declared.header.Kind.{Kind}
use Rattle.syntax.specs.declared.header.Kind.TheVariants as kind
use Rattle.numbers.specs.Reckonings.{Reckonings}
use Rattle.syntax.specs.Constants.{constant_kind}
use Rattle.rules.specs.Trees.{Exp, Control, flow, truth, number, unary, binary, when, simple, merge, choose}
use Rattle.flat.specs.declared.row.Clock.{Clock}
use Rattle.flat.specs.declared.row.Clock.TheVariants.{Base, On}
use Rattle.flat.specs.declared.value.Value.{Value}
use Rattle.flat.specs.declared.value.Value.TheVariants.{Truth, Number}
use Rattle.flat.specs.Programs.{Definition, input, plain, delay, Program, size, row, Ordered}
use Rattle.flat.specs.Values.{Answers, says, exp_value, on}
use Rattle.flat.specs.Beats.{Held, AtDelay, Beat, History}

-- the kind of an operation's parts, and of what it gives: a unary one gives what it takes
abbrev pub unary_takes : UnaryOp → Kind
unary_takes Not = kind.Truth
unary_takes Minus = kind.Number

abbrev pub binary_takes : ℕ → Kind
binary_takes o = cond (nat_le o 2) kind.Truth kind.Number

abbrev pub binary_gives : ℕ → Kind
binary_gives o = cond (nat_le o 2) kind.Truth (cond (nat_le o 6) kind.Number kind.Truth)

-- an expression of a kind on a clock. A constant is on whatever clock is asked: it is on the base of its node,
-- which in a called node is the clock of the call
abbrev pub ExpTyped : Program → Exp → Kind → Clock → Type 0
ExpTyped p (flow x) t k = ((row p x).kind ≡ t) × ((row p x).clock ≡ k)
ExpTyped p (truth b) t k = t ≡ kind.Truth
ExpTyped p (number z) t k = t ≡ kind.Number
ExpTyped p (unary o e) t k = (t ≡ unary_takes o) × ExpTyped p e t k
ExpTyped p (binary o a b) t k = (o ≤ 8) × (t ≡ binary_gives o) × ExpTyped p a (binary_takes o) k × ExpTyped p b (binary_takes o) k
ExpTyped p (when e x s) t k = (k ≡ On x s) × ((row p x).kind ≡ kind.Truth) × ExpTyped p e t (row p x).clock

-- a control expression: the branches of a merge are on the two sides of its flow, those of an if on its clock
abbrev pub ControlTyped : Program → Control → Kind → Clock → Type 0
ControlTyped p (simple e) t k = ExpTyped p e t k
ControlTyped p (merge x a b) t k =
    (k ≡ (row p x).clock) × ((row p x).kind ≡ kind.Truth) × ControlTyped p a t (On x true) × ControlTyped p b t (On x false)
ControlTyped p (choose e a b) t k = ExpTyped p e kind.Truth k × ControlTyped p a t k × ControlTyped p b t k

-- a derived clock's flow is a truth
abbrev pub ClockTyped : Program → Clock → Type 0
ClockTyped p Base = Unit {0}
ClockTyped p (On x s) = (row p x).kind ≡ kind.Truth

-- a row: its expression, and a delay's first value, are of its kind and on its clock
abbrev pub DefinitionTyped : Program → Kind → Clock → Definition → Type 0
DefinitionTyped p t k input = Unit {0}
DefinitionTyped p t k (plain c) = ControlTyped p c t k
DefinitionTyped p t k (delay v e) = (constant_kind v ≡ t) × ExpTyped p e t k

abbrev pub Typed : Program → Type 0
Typed p = (x : ℕ) → x < size p → ClockTyped p (row p x).clock × DefinitionTyped p (row p x).kind (row p x).clock (row p x).definition

-- a value of a kind
abbrev pub OfKind : {N : Type 0} → Kind → Value N → Type 0
OfKind kind.Truth (Truth b) = Unit {0}
OfKind kind.Truth (Number n) = ⊥
OfKind kind.Number (Truth b) = ⊥
OfKind kind.Number (Number n) = Unit {0}

-- there is a value, and it is of a kind
abbrev pub Gives : {N : Type 0} → Kind → Option (Value N) → Type 0
Gives t None = ⊥
Gives t (Some v) = OfKind t v

-- an answer of a flow whose clock is present, with a value of the flow's kind, or absent, with none
abbrev pub Timely : {N : Type 0} → Kind → Bool → Option (Value N) → Type 0
Timely t true v = Gives t v
Timely t false v = v ≡ None

abbrev pub TimelyAt : {N : Type 0} → Program → Answers N → ℕ → Type 0
TimelyAt p a x = Timely (row p x).kind (on a (row p x).clock) (a x)

-- delays hold values of their kinds
abbrev pub HeldKinds : {N : Type 0} → Program → Held N → Type 0
HeldKinds p held = (x : ℕ) → x < size p → AtDelay (λ v e. OfKind (row p x).kind (held x)) (row p x).definition

-- at every beat each flow is present just where its clock is, with a value of its kind; a derived clock is present
-- where its parent is and its flow has its side; and a present delay's expression has a value, which it then holds
pub record PresentFlows {N : Type 0} (r : Reckonings N) (p : Program) (held : Held N) (readings : List ℤ) (a : Answers N) (next : Held N) : Type 0 where
  pub timely : (x : ℕ) → x < size p → TimelyAt p a x
  pub clocks : (x : ℕ) (s : Bool) → x < size p → on a (On x s) ≡ (on a (row p x).clock && says s (a x))
  pub renews : (x : ℕ) → x < size p → T (on a (row p x).clock) → AtDelay (λ v e. exp_value r a e ≡ Some (next x)) (row p x).definition
  pub kinds : HeldKinds p next

pub record Presence {N : Type 0} (r : Reckonings N) (p : Program) : Type 0 where
  pub beats : (held : Held N) (readings : List ℤ) (a : Answers N) (next : Held N) → HeldKinds p held → Beat r p held readings a next → PresentFlows r p held readings a next
  pub histories : (readings : List (List ℤ)) (as' : List (Answers N)) (last : Held N) → History r p readings as' last
      → AllByRecursion (λ a. (x : ℕ) → x < size p → TimelyAt p a x) as'

abbrev pub OrderedPresentFlows : {N : Type 0} → Reckonings N → Type 0
OrderedPresentFlows r = (p : Program) (order : List ℕ) → Ordered p order → Typed p → Presence r p
