-- What can be encoded, and that decoding and encoding undo each other.
use Rattle.std.specs.Prelude.{◌≡◌, ℕ, ◌+◌, ◌<◌, ◌≤◌, List, length, Ok, FitsSigned}
use Rattle.std.specs.Int.{w32}
use Rattle.std.specs.List.{AllByRecursion}
use Rattle.syntax.specs.declared.cell.Cell.{Cell}
use Rattle.syntax.specs.declared.cell.Cell.TheVariants.{Flow, Truth, Number, Unary, Binary, When, Merge, If}
use Rattle.syntax.specs.declared.header.Flow as flow
use Rattle.syntax.specs.declared.header.DerivedClock.{DerivedClock}
use Rattle.syntax.specs.declared.header.Constant.{Constant}
use Rattle.syntax.specs.declared.header.Constant.TheVariants as constant
use Rattle.bits.specs.Bits.{Bytes}
use Rattle.syntax.specs.Syntax.{Expression, FormSyntax, EquationSyntax, NodeSyntax, BlockSyntax, plain, delay, call}
use Rattle.syntax.specs.Decoder.{decode}
use Rattle.syntax.specs.Encoder.{encode}

-- a list of `least` to `most` elements
abbrev pub Counted : {A : Type 0} → ℕ → ℕ → List A → Type 0
Counted least most xs = (least ≤ length xs) × (length xs ≤ most)

-- a cell whose numbers fit their fields
abbrev pub CellFits : Cell → Type 0
CellFits (Flow n) = n < 32
CellFits (Truth t) = Unit {0}
CellFits (Number z) = FitsSigned w32 z
CellFits (Unary o) = Unit {0}
CellFits (Binary o) = o < 9
CellFits (When n s) = n < 32
CellFits (Merge n) = n < 32
CellFits If = Unit {0}

abbrev pub ExpressionFits : Expression → Type 0
ExpressionFits e = Counted 1 32 e × AllByRecursion CellFits e

abbrev pub FlowFits : flow.Flow → Type 0
FlowFits f = f.clock < 8

abbrev pub ClockFits : DerivedClock → Type 0
ClockFits d = (d.parent < 8) × (d.flow < 32)

abbrev pub ConstantFits : Constant → Type 0
ConstantFits (constant.Truth t) = Unit {0}
ConstantFits (constant.Number z) = FitsSigned w32 z

abbrev pub FormFits : FormSyntax → Type 0
FormFits (plain f e) = (f < 32) × ExpressionFits e
FormFits (delay f v e) = (f < 32) × ConstantFits v × ExpressionFits e
FormFits (call n rs es) = (n < 8) × Counted 1 8 rs × AllByRecursion (λ f. f < 32) rs × Counted 1 8 es × AllByRecursion ExpressionFits es

abbrev pub EquationFits : EquationSyntax → Type 0
EquationFits e = (e.clock < 8) × FormFits e.form

-- a node whose counts and numbers fit their fields
pub record NodeFits (n : NodeSyntax) : Type 0 where
  pub inputs : (1 ≤ n.inputs) × (n.inputs ≤ 8)
  pub outputs : (1 ≤ n.outputs) × (n.outputs ≤ 8)
  pub locals : n.locals ≤ 15
  pub counted : length n.flows ≡ n.inputs + n.outputs + n.locals
  pub flows : AllByRecursion FlowFits n.flows
  pub few_clocks : length n.clocks ≤ 7
  pub clocks : AllByRecursion ClockFits n.clocks
  pub few_equations : Counted 1 23 n.equations
  pub equations : AllByRecursion EquationFits n.equations

-- a block that has an encoding of its own
abbrev pub Encodable : BlockSyntax → Type 0
Encodable b = Counted 1 8 b × AllByRecursion NodeFits b

-- decoding and encoding undo each other: what decodes is encodable and encodes to the same bytes; what
-- is encodable and takes at most 2,048 bytes decodes to itself
pub record RoundTrip : Type 0 where
  pub back : (bytes : List ℕ) (b : BlockSyntax) → Bytes bytes → decode bytes ≡ Ok b → Encodable b × (encode b ≡ bytes)
  pub again : (b : BlockSyntax) → Encodable b → length (encode b) ≤ 2048 → decode (encode b) ≡ Ok b
