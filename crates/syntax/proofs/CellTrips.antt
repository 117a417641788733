-- Cells, expressions, flows, derived clocks and first values are read as they are written.
use Rattle.std.proofs.Common.{◌≡◌, ℕ, zero, suc, ◌^◌, ◌<◌, Bool, true, false, eqb, ltb, List, Ok, refl, arith, w32, Fits}
use mir.Val.{bool_byte}
use mir.ValLaws.{to_z-Fits, of_z_fits, to_z-of_z, of_z-to_z}
use Rattle.std.proofs.lemmas.Bool.{eqb-true, eqb-false, ltb-true, lt-ltb}
use Rattle.syntax.specs.declared.cell.Cell.{Cell}
use Rattle.syntax.specs.declared.cell.Cell.TheVariants.{Flow, Truth, Number, Unary, Binary, When, Merge, If}
use Rattle.syntax.specs.declared.cell.UnaryOp.{UnaryOp}
use Rattle.syntax.specs.declared.cell.UnaryOp.TheVariants.{Not, Minus}
use Rattle.syntax.specs.declared.header.Kind.{Kind}
use Rattle.syntax.specs.declared.header.Kind.TheVariants as kind
use Rattle.syntax.specs.declared.header.Flow as flow
use Rattle.syntax.specs.declared.header.DerivedClock.{DerivedClock}
use Rattle.syntax.specs.declared.header.Constant.{Constant}
use Rattle.syntax.specs.declared.header.Constant.TheVariants as constant
use Rattle.syntax.specs.Parse.{field}
use Rattle.syntax.specs.Decoder.{flag, unary_op, kind_of, read_flow_cell, read_truth_cell, read_number_cell, read_unary_cell, read_binary_cell, read_when_cell, read_merge_cell, operands, read_cell, read_expression, read_flow, read_clock, read_constant}
use Rattle.syntax.specs.Encoder.{cell_fields, unary_number, kind_number, expression_fields, flow_fields, clock_fields, constant_fields}
use Rattle.std.specs.List.{AllByRecursion}
use Rattle.syntax.specs.Laws.{CellFits, ExpressionFits, FlowFits, ClockFits, ConstantFits}
use Rattle.syntax.proofs.Standing.{AreBits, Stands, Made, made_ok, made_err, made_after, made_cond, FieldFits}
use Rattle.syntax.proofs.Undoing.{Undoes, field_back, undoes_some}

pub flag-bit : (t : Bool) → flag (bool_byte t) ≡ t
flag-bit true = refl
flag-bit false = refl

-- a bit is 0 or 1
bit_is : (P : ℕ → Type 0) → P 0 → P 1 → (n : ℕ) → n < 2 → P n
bit_is P a b zero h = a
bit_is P a b (suc zero) h = b
bit_is P a b (suc (suc n)) h = absurd (omega arith)

pub bit-flag : (n : ℕ) → n < 2 → bool_byte (flag n) ≡ n
bit-flag n h = bit_is (λ n. bool_byte (flag n) ≡ n) refl refl n h

pub bit_below : (t : Bool) → bool_byte t < 2
bit_below true = omega arith
bit_below false = omega arith

unary_bit : (o : UnaryOp) → unary_op (unary_number o) ≡ o
unary_bit Not = refl
unary_bit Minus = refl

bit_unary : (n : ℕ) → n < 2 → unary_number (unary_op n) ≡ n
bit_unary n h = bit_is (λ n. unary_number (unary_op n) ≡ n) refl refl n h

unary_below : (o : UnaryOp) → unary_number o < 2
unary_below Not = omega arith
unary_below Minus = omega arith

kind_bit : (k : Kind) → kind_of (kind_number k) ≡ k
kind_bit kind.Truth = refl
kind_bit kind.Number = refl

bit_kind : (n : ℕ) → n < 2 → kind_number (kind_of n) ≡ n
bit_kind n h = bit_is (λ n. kind_number (kind_of n) ≡ n) refl refl n h

kind_below : (k : Kind) → kind_number k < 2
kind_below kind.Truth = omega arith
kind_below kind.Number = omega arith

word : (n : ℕ) → n < 2 ^ 32 → Fits w32 n
word n h = record { fits = h }

-- a cell that fits, with its fields from `at` on
abbrev CellThere : List ℕ → ℕ → Cell → ℕ → Type 0
CellThere bits at x q = CellFits x × Stands bits at (cell_fields x) q

-- what each operator takes, from m on, where the operator stands at `at`
module _ (bits : List ℕ) (at m : ℕ) (h : AreBits bits) where
  flow_cell_back : field 4 bits at ≡ Ok (0, m) → Made (read_flow_cell bits m) (CellThere bits at)
  flow_cell_back e =
      made_after (field 5 bits m) _ (field_back 5 bits m h) λ v q b.
      made_ok (b.0, (m, e, (q, b.1, refl)))

  truth_cell_back : field 4 bits at ≡ Ok (1, m) → Made (read_truth_cell bits m) (CellThere bits at)
  truth_cell_back e =
      made_after (field 1 bits m) _ (field_back 1 bits m h) λ v q b.
      made_ok (tt, (m, e, (q, rw (bit-flag v b.0) b.1, refl)))

  number_cell_back : field 4 bits at ≡ Ok (2, m) → Made (read_number_cell bits m) (CellThere bits at)
  number_cell_back e =
      made_after (field 32 bits m) _ (field_back 32 bits m h) λ v q b.
      made_ok (to_z-Fits w32 v (word v b.0), (m, e, (q, rw (of_z-to_z w32 v (word v b.0)) b.1, refl)))

  unary_cell_back : field 4 bits at ≡ Ok (3, m) → Made (read_unary_cell bits m) (CellThere bits at)
  unary_cell_back e =
      made_after (field 1 bits m) _ (field_back 1 bits m h) λ v q b.
      made_ok (tt, (m, e, (q, rw (bit_unary v b.0) b.1, refl)))

  binary_cell_back : field 4 bits at ≡ Ok (4, m) → Made (read_binary_cell bits m) (CellThere bits at)
  binary_cell_back e =
      made_after (field 4 bits m) _ (field_back 4 bits m h) λ v q b.
      made_cond (ltb v 9) _ _ bits q (λ t. made_ok (ltb-true v 9 t, (m, e, (q, b.1, refl)))) (λ f. made_err)

  when_cell_back : field 4 bits at ≡ Ok (5, m) → Made (read_when_cell bits m) (CellThere bits at)
  when_cell_back e =
      made_after (field 5 bits m) _ (field_back 5 bits m h) λ v k a.
      made_after (field 1 bits k) _ (field_back 1 bits k h) λ s q b.
      made_ok (a.0, (m, e, (k, a.1, (q, rw (bit-flag s b.0) b.1, refl))))

  merge_cell_back : field 4 bits at ≡ Ok (6, m) → Made (read_merge_cell bits m) (CellThere bits at)
  merge_cell_back e =
      made_after (field 5 bits m) _ (field_back 5 bits m h) λ v q b.
      made_ok (b.0, (m, e, (q, b.1, refl)))

  operands_back : (n : ℕ) → field 4 bits at ≡ Ok (n, m) → Made (operands at n bits m) (CellThere bits at)
  operands_back n e =
      made_cond (eqb n 0) _ _ bits m (λ t. flow_cell_back (rw (eqb-true n 0 t) at e)) λ _.
      made_cond (eqb n 1) _ _ bits m (λ t. truth_cell_back (rw (eqb-true n 1 t) at e)) λ _.
      made_cond (eqb n 2) _ _ bits m (λ t. number_cell_back (rw (eqb-true n 2 t) at e)) λ _.
      made_cond (eqb n 3) _ _ bits m (λ t. unary_cell_back (rw (eqb-true n 3 t) at e)) λ _.
      made_cond (eqb n 4) _ _ bits m (λ t. binary_cell_back (rw (eqb-true n 4 t) at e)) λ _.
      made_cond (eqb n 5) _ _ bits m (λ t. when_cell_back (rw (eqb-true n 5 t) at e)) λ _.
      made_cond (eqb n 6) _ _ bits m (λ t. merge_cell_back (rw (eqb-true n 6 t) at e)) λ _.
      made_cond (eqb n 7) _ _ bits m (λ t. made_ok (tt, (m, rw (eqb-true n 7 t) at e, refl))) λ _.
      made_err

cell_back : (bits : List ℕ) (at : ℕ) → AreBits bits → Made (read_cell bits at) (CellThere bits at)
unfolding read_cell
cell_back bits at h = made_after (field 4 bits at) _ (field_back 4 bits at h) λ n m a. operands_back bits at m h n a.1

cell_again : (bits : List ℕ) (at : ℕ) (x : Cell) (q : ℕ) → CellFits x → Stands bits at (cell_fields x) q → read_cell bits at ≡ Ok (x, q)
unfolding read_cell
cell_again bits at (Flow n) q g s = rw (s.1, s.2.1, s.2.2)
cell_again bits at (Truth t) q g s = rw (s.1, s.2.1, flag-bit t, s.2.2)
cell_again bits at (Number z) q g s = rw (s.1, s.2.1, to_z-of_z w32 z g, s.2.2)
cell_again bits at (Unary o) q g s = rw (s.1, s.2.1, unary_bit o, s.2.2)
cell_again bits at (Binary o) q g s = rw (s.1, s.2.1, lt-ltb o 9 g, s.2.2)
cell_again bits at (When n t) q g s = rw (s.1, s.2.1, s.2.2.1, flag-bit t, s.2.2.2)
cell_again bits at (Merge n) q g s = rw (s.1, s.2.1, s.2.2)
cell_again bits at If q g s = rw (s.1, s.2)

cell_room : (x : Cell) → CellFits x → AllByRecursion FieldFits (cell_fields x)
cell_room (Flow n) g = (omega arith, (g, tt))
cell_room (Truth t) g = (omega arith, (bit_below t, tt))
cell_room (Number z) g = (omega arith, ((of_z_fits w32 z g).fits, tt))
cell_room (Unary o) g = (omega arith, (unary_below o, tt))
cell_room (Binary o) g = (omega arith, (omega arith, tt))
cell_room (When n t) g = (omega arith, (g, (bit_below t, tt)))
cell_room (Merge n) g = (omega arith, (g, tt))
cell_room If g = (omega arith, tt)

pub undoes_cell : Undoes read_cell CellFits cell_fields
undoes_cell = record { back = cell_back; again = cell_again; fits = cell_room }

pub undoes_expression : Undoes read_expression ExpressionFits expression_fields
unfolding read_expression
undoes_expression = undoes_some undoes_cell 5

flow_back : (bits : List ℕ) (at : ℕ) → AreBits bits → Made (read_flow bits at) (λ f q. FlowFits f × Stands bits at (flow_fields f) q)
unfolding read_flow
flow_back bits at h =
    made_after (field 1 bits at) _ (field_back 1 bits at h) λ k m a.
    made_after (field 3 bits m) _ (field_back 3 bits m h) λ c q b.
    made_ok (b.0, (m, rw (bit_kind k a.0) a.1, (q, b.1, refl)))

flow_again : (bits : List ℕ) (at : ℕ) (f : flow.Flow) (q : ℕ) → FlowFits f → Stands bits at (flow_fields f) q → read_flow bits at ≡ Ok (f, q)
unfolding read_flow
flow_again bits at f q g s = rw (s.1, s.2.1, kind_bit f.kind, s.2.2)

pub undoes_flow : Undoes read_flow FlowFits flow_fields
undoes_flow = record { back = flow_back; again = flow_again; fits = λ f g. (kind_below f.kind, (g, tt)) }

clock_back : (bits : List ℕ) (at : ℕ) → AreBits bits → Made (read_clock bits at) (λ d q. ClockFits d × Stands bits at (clock_fields d) q)
unfolding read_clock
clock_back bits at h =
    made_after (field 3 bits at) _ (field_back 3 bits at h) λ p m a.
    made_after (field 5 bits m) _ (field_back 5 bits m h) λ f k b.
    made_after (field 1 bits k) _ (field_back 1 bits k h) λ s q c.
    made_ok ((a.0, b.0), (m, a.1, (k, b.1, (q, rw (bit-flag s c.0) c.1, refl))))

clock_again : (bits : List ℕ) (at : ℕ) (d : DerivedClock) (q : ℕ) → ClockFits d → Stands bits at (clock_fields d) q → read_clock bits at ≡ Ok (d, q)
unfolding read_clock
clock_again bits at d q g s = rw (s.1, s.2.1, s.2.2.1, flag-bit d.side, s.2.2.2)

pub undoes_clock : Undoes read_clock ClockFits clock_fields
undoes_clock = record { back = clock_back; again = clock_again; fits = λ d g. (g.0, (g.1, (bit_below d.side, tt))) }

constant_back : (bits : List ℕ) (at : ℕ) → AreBits bits → Made (read_constant bits at) (λ v q. ConstantFits v × Stands bits at (constant_fields v) q)
unfolding read_constant
constant_back bits at h =
    made_after (field 1 bits at) _ (field_back 1 bits at h) λ k m a.
    made_cond (eqb k 0) _ _ bits m
    (λ t.
    made_after (field 1 bits m) _ (field_back 1 bits m h) λ v q b.
    made_ok (tt, (m, rw (eqb-true k 0 t) at a.1, (q, rw (bit-flag v b.0) b.1, refl))))
    (λ f.
    made_after (field 32 bits m) _ (field_back 32 bits m h) λ v q b.
    let one : k ≡ 1 = omega (arith, eqb-false k 0 f, a.0) in
    made_ok (to_z-Fits w32 v (word v b.0), (m, rw one at a.1, (q, rw (of_z-to_z w32 v (word v b.0)) b.1, refl))))

constant_again : (bits : List ℕ) (at : ℕ) (v : Constant) (q : ℕ) → ConstantFits v → Stands bits at (constant_fields v) q → read_constant bits at ≡ Ok (v, q)
unfolding read_constant
constant_again bits at (constant.Truth t) q g s = rw (s.1, s.2.1, flag-bit t, s.2.2)
constant_again bits at (constant.Number z) q g s = rw (s.1, s.2.1, to_z-of_z w32 z g, s.2.2)

constant_room : (v : Constant) → ConstantFits v → AllByRecursion FieldFits (constant_fields v)
constant_room (constant.Truth t) g = (omega arith, (bit_below t, tt))
constant_room (constant.Number z) g = (omega arith, ((of_z_fits w32 z g).fits, tt))

pub undoes_constant : Undoes read_constant ConstantFits constant_fields
undoes_constant = record { back = constant_back; again = constant_again; fits = constant_room }
