-- The format of a block as the list of its fields, and the bytes that they fill.
use Rattle.std.specs.Prelude.{ℕ, ◌-◌, List, [], ◌∷◌, ◌++◌, length}
use mir.Val.{of_z, bool_byte}
use Rattle.std.specs.Int.{w32}
use Rattle.syntax.specs.declared.cell.Cell.{Cell}
use Rattle.syntax.specs.declared.cell.Cell.TheVariants.{Flow, Truth, Number, Unary, Binary, When, Merge, If}
use Rattle.syntax.specs.declared.cell.UnaryOp.{UnaryOp}
use Rattle.syntax.specs.declared.cell.UnaryOp.TheVariants.{Not, Minus}
use Rattle.syntax.specs.declared.header.Kind.{Kind}
use Rattle.syntax.specs.declared.header.Kind.TheVariants as kind
use Rattle.syntax.specs.declared.header.Flow as flow
use Rattle.syntax.specs.declared.header.DerivedClock.{DerivedClock}
use Rattle.syntax.specs.declared.header.Constant.{Constant}
use Rattle.syntax.specs.declared.header.Constant.TheVariants as constant
use Rattle.std.specs.List.{flat_map}
use Rattle.bits.specs.Bits.{digits, bytes_of}
use Rattle.syntax.specs.Syntax.{Expression, FormSyntax, EquationSyntax, NodeSyntax, BlockSyntax, plain, delay, call}

-- a field: its width in bits and its value
abbrev pub Field : Type 0
Field = ℕ × ℕ

abbrev pub unary_number : UnaryOp → ℕ
unary_number Not = 0
unary_number Minus = 1

-- a cell: its operator, and what that takes
abbrev pub cell_fields : Cell → List Field
cell_fields (Flow n) = (4, 0) ∷ (5, n) ∷ []
cell_fields (Truth t) = (4, 1) ∷ (1, bool_byte t) ∷ []
cell_fields (Number z) = (4, 2) ∷ (32, of_z w32 z) ∷ []
cell_fields (Unary o) = (4, 3) ∷ (1, unary_number o) ∷ []
cell_fields (Binary o) = (4, 4) ∷ (4, o) ∷ []
cell_fields (When n s) = (4, 5) ∷ (5, n) ∷ (1, bool_byte s) ∷ []
cell_fields (Merge n) = (4, 6) ∷ (5, n) ∷ []
cell_fields If = (4, 7) ∷ []

-- an expression: its cells less one, and the cells
abbrev pub expression_fields : Expression → List Field
expression_fields e = (5, length e - 1) ∷ flat_map cell_fields e

abbrev pub kind_number : Kind → ℕ
kind_number kind.Truth = 0
kind_number kind.Number = 1

-- a flow: its kind and its clock
abbrev pub flow_fields : flow.Flow → List Field
flow_fields f = (1, kind_number f.kind) ∷ (3, f.clock) ∷ []

-- a derived clock: its parent, its flow and its side
abbrev pub clock_fields : DerivedClock → List Field
clock_fields d = (3, d.parent) ∷ (5, d.flow) ∷ (1, bool_byte d.side) ∷ []

-- a delay's first value: its kind, and one bit or 32
abbrev pub constant_fields : Constant → List Field
constant_fields (constant.Truth t) = (1, 0) ∷ (1, bool_byte t) ∷ []
constant_fields (constant.Number z) = (1, 1) ∷ (32, of_z w32 z) ∷ []

abbrev pub result_fields : ℕ → List Field
result_fields f = (5, f) ∷ []

-- the results of a call: how many less one, and their flows
abbrev pub results_fields : List ℕ → List Field
results_fields rs = (3, length rs - 1) ∷ flat_map result_fields rs

-- the arguments of a call: how many less one, and their expressions
abbrev pub arguments_fields : List Expression → List Field
arguments_fields es = (3, length es - 1) ∷ flat_map expression_fields es

abbrev pub form_number : FormSyntax → ℕ
form_number (plain f e) = 0
form_number (delay f v e) = 1
form_number (call n rs es) = 2

-- what follows form and clock
abbrev pub form_fields : FormSyntax → List Field
form_fields (plain f e) = (5, f) ∷ expression_fields e
form_fields (delay f v e) = (5, f) ∷ (constant_fields v ++ expression_fields e)
form_fields (call n rs es) = (3, n) ∷ (results_fields rs ++ arguments_fields es)

-- an equation: its form, its clock, and what the form takes
abbrev pub equation_fields : EquationSyntax → List Field
equation_fields e = (2, form_number e.form) ∷ (3, e.clock) ∷ form_fields e.form

-- the equations of a node: how many, and these
abbrev pub equations_fields : List EquationSyntax → List Field
equations_fields es = (5, length es) ∷ flat_map equation_fields es

-- a node: the counts, its flows, its derived clocks, and its equations
abbrev pub node_fields : NodeSyntax → List Field
node_fields n =
    (3, n.inputs - 1) ∷ (3, n.outputs - 1) ∷ (4, n.locals) ∷ (3, length n.clocks) ∷
    (flat_map flow_fields n.flows ++ (flat_map clock_fields n.clocks ++ equations_fields n.equations))

-- a block: the mark, nodes less one, and the nodes
abbrev pub block_fields : BlockSyntax → List Field
block_fields b = (8, 183) ∷ (3, length b - 1) ∷ flat_map node_fields b

-- the bits of fields, one after another without a gap
abbrev pub field_bits : Field → List ℕ
field_bits f = digits f.0 f.1

abbrev pub fields_bits : List Field → List ℕ
fields_bits fs = flat_map field_bits fs

-- the bytes of a block; a block with no node has none
unfoldable pub encode : BlockSyntax → List ℕ
encode [] = []
encode (n ∷ ns) = bytes_of (fields_bits (block_fields (n ∷ ns)))
