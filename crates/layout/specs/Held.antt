-- What the rows hold: a block, or nothing.
use Rattle.std.specs.Prelude.{◌≡◌, ℕ, ◌-◌, ◌≤◌, Bool, true, false, cond, List, [], ◌∷◌, ◌++◌, map, length, drop, replicate, is_ok, Ok, Err, Result, ◌==◌, nat_le, slice_index_or}
use Rattle.syntax.specs.declared.cell.Cell.{Cell}
use Rattle.syntax.specs.declared.cell.Cell.TheVariants.{Flow, Truth, Number, Unary, Binary, When, Merge, If}
use Rattle.syntax.specs.declared.fault.ReadFault.{ReadFault}
use Rattle.syntax.specs.declared.fault.WriteFault.{WriteFault}
use Rattle.syntax.specs.declared.fault.WriteFault.TheVariants.{TooShort}
use Rattle.syntax.specs.Syntax.{BlockSyntax}
use Rattle.syntax.specs.Decoder.{decode}
use Rattle.syntax.specs.Encoder.{encode}
use Rattle.layout.specs.declared.table.Table.{Table}
use Rattle.layout.specs.Blanks.{blank_cell}
use Rattle.layout.specs.Layout.{rows_from, node_row, node_cells, node_in, block_cells}

-- the rows hold just this block: its nodes and its cells, and blanks after these
pub record Holds (t : Table) (b : BlockSyntax) : Type 0 where
  pub nodes : t.nodes.items ≡ rows_from node_row node_cells 0 b
  pub used : t.store.used ≡ length (block_cells b)
  pub cells : (i : ℕ) → slice_index_or t.store.cells.now i blank_cell ≡ slice_index_or (block_cells b) i blank_cell
  pub room : t.store.used ≤ length t.store.cells.now

-- the block that rows stand for
unfoldable pub block_in : Table → BlockSyntax
block_in t = map (node_in t.store.cells.now) t.nodes.items

-- rows are blank, or what they stand for can be read again
abbrev pub readable : BlockSyntax → Bool
readable [] = true
readable (n ∷ ns) = is_ok (decode (encode (n ∷ ns)))

abbrev pub is_blank : Cell → Bool
is_blank (Flow n) = n == 0
is_blank (Truth t) = false
is_blank (Number z) = false
is_blank (Unary o) = false
is_blank (Binary o) = false
is_blank (When n s) = false
is_blank (Merge n) = false
is_blank If = false

-- the answer to reading, and the block that the rows hold after it
abbrev pub read_answer : Result BlockSyntax ReadFault → Result (Unit {0}) ReadFault
read_answer (Ok b) = Ok tt
read_answer (Err e) = Err e

abbrev pub read_block : Result BlockSyntax ReadFault → BlockSyntax
read_block (Ok b) = b
read_block (Err e) = []

-- the answer to writing into so many bytes, and these bytes after it: the block, zeros up to 2,048
-- bytes, and the rest as it was
abbrev pub write_answer : BlockSyntax → ℕ → Result ℕ WriteFault
write_answer b n = cond (nat_le 2048 n) (Ok (length (encode b))) (Err TooShort)

abbrev pub write_bytes : BlockSyntax → List ℕ → List ℕ
write_bytes b out = cond (nat_le 2048 (length out)) (encode b ++ (replicate (2048 - length (encode b)) 0 ++ drop 2048 out)) out

-- nothing stands past the used cells
abbrev pub PastBlank : Table → Type 0
PastBlank t = (i : ℕ) → t.store.used ≤ i → slice_index_or t.store.cells.now i blank_cell ≡ blank_cell
