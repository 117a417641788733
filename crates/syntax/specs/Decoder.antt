-- The format of a block, field by field, as a decoder over the list of its bits.
use Rattle.std.specs.Prelude.{ℕ, ◌+◌, Bool, cond, ◌&&◌, List, length, drop, Ok, Err, Result, ◌==◌, nat_le, nat_lt}
use Rattle.std.proofs.Common.{to_z}
use Rattle.std.specs.Int.{w32}
use Rattle.syntax.specs.declared.cell.Cell.{Cell}
use Rattle.syntax.specs.declared.cell.Cell.TheVariants.{Flow, Truth, Number, Unary, Binary, When, Merge, If}
use Rattle.syntax.specs.declared.cell.UnaryOp.{UnaryOp}
use Rattle.syntax.specs.declared.cell.UnaryOp.TheVariants.{Not, Minus}
use Rattle.syntax.specs.declared.header.Kind.{Kind}
use Rattle.syntax.specs.declared.header.Kind.TheVariants as kind
use Rattle.syntax.specs.declared.header.Flow as flow
use Rattle.syntax.specs.declared.header.DerivedClock.{DerivedClock}
use Rattle.syntax.specs.declared.header.Constant.{Constant}
use Rattle.syntax.specs.declared.header.Constant.TheVariants as constant
use Rattle.syntax.specs.declared.fault.ReadFault.{ReadFault}
use Rattle.syntax.specs.declared.fault.ReadFault.TheVariants.{TooFewCells, BlockLength, Filling}
use Rattle.bits.specs.Bits.{bits_of, number_of}
use Rattle.syntax.specs.Syntax.{Expression, FormSyntax, EquationSyntax, NodeSyntax, BlockSyntax, plain, delay, call}
use Rattle.syntax.specs.Parse.{Parser, ◌>>=◌, field, gives, no_meaning, many}

-- a bit as a truth
abbrev pub flag : ℕ → Bool
flag n = n == 1

-- the unary operators: 0 not, 1 minus
abbrev pub unary_op : ℕ → UnaryOp
unary_op n = cond (n == 0) Not Minus

-- the cells, by their operator: 0, a flow
abbrev pub read_flow_cell : Parser Cell
read_flow_cell = do
  n ← field 5
  gives (Flow n)

-- 1, a truth
abbrev pub read_truth_cell : Parser Cell
read_truth_cell = do
  n ← field 1
  gives (Truth (flag n))

-- 2, a number in two's complement
abbrev pub read_number_cell : Parser Cell
read_number_cell = do
  n ← field 32
  gives (Number (to_z w32 n))

-- 3, a unary operator
abbrev pub read_unary_cell : Parser Cell
read_unary_cell = do
  n ← field 1
  gives (Unary (unary_op n))

-- 4, a binary operator, whose codes are 0 to 8
abbrev pub binary_cell : ℕ → ℕ → Parser Cell
binary_cell b n = cond (nat_lt n 9) (gives (Binary n)) (no_meaning b)

abbrev pub read_binary_cell : Parser Cell
read_binary_cell bits at = (do
  n ← field 4
  binary_cell at n) bits at

-- 5, when: a flow and a side
abbrev pub read_when_cell : Parser Cell
read_when_cell = do
  n ← field 5
  s ← field 1
  gives (When n (flag s))

-- 6, merge by a flow
abbrev pub read_merge_cell : Parser Cell
read_merge_cell = do
  n ← field 5
  gives (Merge n)

-- 7, if; no operator is above
abbrev pub operands : ℕ → ℕ → Parser Cell
operands b n =
    cond (n == 0) read_flow_cell
    (cond (n == 1) read_truth_cell
    (cond (n == 2) read_number_cell
    (cond (n == 3) read_unary_cell
    (cond (n == 4) read_binary_cell
    (cond (n == 5) read_when_cell
    (cond (n == 6) read_merge_cell
    (cond (n == 7) (gives If) (no_meaning b))))))))

abbrev pub cell_parts : Parser Cell
cell_parts bits at = (do
  n ← field 4
  operands at n) bits at

-- a cell: its operator, and what that takes
unfoldable pub read_cell : Parser Cell
read_cell = cell_parts

-- an expression: its cells less one, and the cells
unfoldable pub read_expression : Parser Expression
read_expression = do
  n ← field 5
  many read_cell (n + 1)

-- kinds: 0 truth, 1 number
abbrev pub kind_of : ℕ → Kind
kind_of n = cond (n == 0) kind.Truth kind.Number

-- a flow: its kind and its clock
unfoldable pub read_flow : Parser flow.Flow
read_flow = do
  k ← field 1
  c ← field 3
  gives (record { kind = kind_of k; clock = c })

-- a derived clock: its parent clock, its flow and its side, where 1 is true
unfoldable pub read_clock : Parser DerivedClock
read_clock = do
  p ← field 3
  f ← field 5
  s ← field 1
  gives (record { parent = p; flow = f; side = flag s })

abbrev pub constant_truth : Parser Constant
constant_truth = do
  t ← field 1
  gives (constant.Truth (flag t))

abbrev pub constant_number : Parser Constant
constant_number = do
  n ← field 32
  gives (constant.Number (to_z w32 n))

-- a delay's first value: its kind, and one bit or 32
unfoldable pub read_constant : Parser Constant
read_constant = do
  k ← field 1
  cond (k == 0) constant_truth constant_number

-- form 0, plain: the flow, and its expression
unfoldable pub read_plain : Parser FormSyntax
read_plain = do
  f ← field 5
  e ← read_expression
  gives (plain f e)

-- form 1, delay: the flow, its first value, and its expression
unfoldable pub read_delay : Parser FormSyntax
read_delay = do
  f ← field 5
  v ← read_constant
  e ← read_expression
  gives (delay f v e)

-- the results of a call: how many less one, and their flows
unfoldable pub read_results : Parser (List ℕ)
read_results = do
  r ← field 3
  many (field 5) (r + 1)

-- the arguments of a call: how many less one, and their expressions
unfoldable pub read_arguments : Parser (List Expression)
read_arguments = do
  a ← field 3
  many read_expression (a + 1)

-- form 2, call: the node, the results, and the arguments
unfoldable pub read_call : Parser FormSyntax
read_call = do
  n ← field 3
  rs ← read_results
  es ← read_arguments
  gives (call n rs es)

-- what follows form and clock; no form is above 2
abbrev pub read_form : ℕ → Parser FormSyntax
read_form f = cond (f == 0) read_plain (cond (f == 1) read_delay read_call)

-- a number that has a meaning only below a limit; its field begins at bit b
abbrev pub below : ℕ → ℕ → ℕ → Parser ℕ
below limit b n = cond (nat_lt n limit) (gives n) (no_meaning b)

-- the form, 0 to 2
unfoldable pub read_form_number : Parser ℕ
read_form_number bits at = (do
  n ← field 2
  below 3 at n) bits at

-- an equation: its form, its clock, and what the form takes
unfoldable pub read_equation : Parser EquationSyntax
read_equation = do
  f ← read_form_number
  c ← field 3
  e ← read_form f
  gives (record { clock = c; form = e })

-- a number of equations, 1 to 23; its field begins at bit b
abbrev pub one_to_23 : ℕ → ℕ → Parser ℕ
one_to_23 b n = cond (nat_le 1 n && nat_le n 23) (gives n) (no_meaning b)

-- how many equations a node has
unfoldable pub read_count : Parser ℕ
read_count bits at = (do
  n ← field 5
  one_to_23 at n) bits at

-- the equations of a node: how many, and these
unfoldable pub read_equations : Parser (List EquationSyntax)
read_equations = do
  n ← read_count
  many read_equation n

-- a node: inputs less one, outputs less one, locals, derived clocks; its flows, inputs first, then
-- outputs, then locals; its derived clocks; its equations
unfoldable pub read_node : Parser NodeSyntax
read_node = do
  i ← field 3
  o ← field 3
  l ← field 4
  d ← field 3
  fs ← many read_flow (i + 1 + (o + 1) + l)
  ds ← many read_clock d
  es ← read_equations
  gives (record { inputs = i + 1; outputs = o + 1; locals = l; flows = fs; clocks = ds; equations = es })

-- the mark of a block, 183
abbrev pub the_mark : ℕ → ℕ → Parser ℕ
the_mark b n = cond (n == 183) (gives n) (no_meaning b)

unfoldable pub read_mark : Parser ℕ
read_mark bits at = (do
  n ← field 8
  the_mark at n) bits at

-- a block's fields: the mark, nodes less one, and the nodes
unfoldable pub read_fields : Parser BlockSyntax
read_fields = do
  m ← read_mark
  n ← field 3
  many read_node (n + 1)

-- what may follow the last field: fewer than eight bits, all zero
abbrev pub fills : List ℕ → Bool
fills rest = nat_lt (length rest) 8 && number_of rest == 0

-- the fields, and nothing but filling after them
abbrev pub filled : List ℕ → Result (BlockSyntax × ℕ) ReadFault → Result BlockSyntax ReadFault
filled bits (Ok r) = cond (fills (drop r.1 bits)) (Ok r.0) (Err (Filling r.1))
filled bits (Err e) = Err e

-- the block that bytes are, of which there are 1 to 2,048, or why they are none
unfoldable pub decode : List ℕ → Result BlockSyntax ReadFault
decode bytes =
    cond (nat_le 1 (length bytes) && nat_le (length bytes) 2048)
    (filled (bits_of bytes) (read_fields (bits_of bytes) 0))
    (Err BlockLength)

-- the same into rows with room for so many cells: any block has at most 4,096
abbrev pub decode_into : ℕ → List ℕ → Result BlockSyntax ReadFault
decode_into cells bytes = cond (nat_le 4096 cells) (decode bytes) (Err TooFewCells)
