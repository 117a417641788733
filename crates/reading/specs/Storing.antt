-- What a call leaves that reads a part of a block and stores its cells.
use Rattle.std.specs.Prelude.{◌≡◌, ℕ, ◌+◌, ◌≤◌, cond, List, [], length, drop, Ok, Err, Result, slice_index_or}
use Rattle.syntax.specs.declared.cell.Cell.{Cell}
use Rattle.syntax.specs.declared.fault.ReadFault.{ReadFault}
use Rattle.syntax.specs.declared.fault.ReadFault.TheVariants.{Filling}
use Rattle.syntax.specs.Syntax.{BlockSyntax}
use Rattle.syntax.specs.Decoder.{fills}
use Rattle.std.specs.List.{flat_map}
use Rattle.syntax.specs.Parse.{Parser, ◌>>=◌, field, many}
use Rattle.bits.specs.Bits.{bits_of}
use Rattle.bits.specs.Overwriting.{written}
use Rattle.layout.specs.Vectors.{Items}
use Rattle.layout.specs.declared.store.CellStore.{CellStore}
use Rattle.layout.specs.Blanks.{blank_cell}
use Rattle.layout.specs.declared.node.Node.{Node}
use Rattle.layout.specs.Layout.{rows_from, node_row, node_cells, block_cells}
use Rattle.reading.specs.declared.reader.BlockReader.{BlockReader}
use Rattle.reading.specs.declared.reader.items.FormKind.{FormKind}
use Rattle.reading.specs.declared.reader.items.FormKind.TheVariants.{Plain, Delay, Call}

-- a call that read as s says: the number of what it answered, and the place after it
abbrev pub Gives : {A B : Type 0} → (B → A) → Result (A × ℕ) ReadFault → Result B ReadFault → ℕ → Type 0
Gives number s (Ok v) q = s ≡ Ok (number v, q)
Gives number s (Err e) q = s ≡ Err e

-- a call that read by p, from where the reader r stood to where r' stands, and stored nothing; what it
-- answered stands for the number that was read
pub record TakesAs {A B : Type 0} (number : B → A) (p : Parser A) (r r' : BlockReader) (a : Result B ReadFault) : Type 0 where
  pub gives : Gives number (p (bits_of r.bytes.now) r.at) a r'.at
  pub bytes : r'.bytes.now ≡ r.bytes.now
  pub on : r.at ≤ r'.at
  pub store : r'.store ≡ r.store

-- the same where it answered what was read
abbrev pub Takes : {A : Type 0} → Parser A → BlockReader → BlockReader → Result A ReadFault → Type 0
Takes p r r' a = TakesAs (λ x. x) p r r' a

-- nothing past the used cells has changed
pub record Grown (c c' : CellStore) : Type 0 where
  pub long : length c'.cells.now ≡ length c.cells.now
  pub more : c.used ≤ c'.used
  pub past : (i : ℕ) → c'.used ≤ i → slice_index_or c'.cells.now i blank_cell ≡ slice_index_or c.cells.now i blank_cell

-- the reader has the same bytes and the same store, and did not go back
pub record Moved (r r' : BlockReader) : Type 0 where
  pub bytes : r'.bytes.now ≡ r.bytes.now
  pub on : r.at ≤ r'.at
  pub store : r'.store.ghost_name ≡ r.store.ghost_name
  pub grown : Grown r.store.now r'.store.now

-- the answer v is the row of an item as said, and its cells stand after those that were used before
pub record Stored {A B : Type 0} (row : ℕ → A → B) (cells : A → List Cell) (said : A → Type 0) (c c' : CellStore) (v : B) : Type 0 where
  pub item : A
  pub reads : said item
  pub is : v ≡ row c.used item
  pub held : c'.cells.now ≡ written c.cells.now c.used (cells item)
  pub fills : c'.used ≡ c.used + length (cells item)

-- a call that read as s says and stored the cells
abbrev pub GivesInto : {A B : Type 0} → (ℕ → A → B) → (A → List Cell) → Result (A × ℕ) ReadFault → ℕ → CellStore → CellStore → Result B ReadFault → Type 0
GivesInto row cells s at c c' (Ok v) = Stored row cells (λ x. s ≡ Ok (x, at)) c c' v
GivesInto row cells s at c c' (Err e) = s ≡ Err e

-- a call that read by p and stored the cells
pub record ReadsInto {A B : Type 0} (row : ℕ → A → B) (cells : A → List Cell) (p : Parser A) (r r' : BlockReader) (a : Result B ReadFault) : Type 0 where
  pub moved : Moved r r'
  pub gives : GivesInto row cells (p (bits_of r.bytes.now) r.at) r'.at r.store.now r'.store.now a

-- an item that has no cells is its own row
abbrev pub as_is : {A : Type 0} → ℕ → A → A
as_is from x = x

abbrev pub no_cells : {A : Type 0} → A → List Cell
no_cells x = []

-- a vector of the rows of items
abbrev pub vector_row : {A B : Type 0} → (ℕ → A → B) → (A → List Cell) → ℕ → List A → Items B
vector_row row cells from xs = record { items = rows_from row cells from xs }

-- the answer of a call that made a vector where it lies
abbrev pub made : {A : Type 0} → Result (Unit {0}) ReadFault → Items A → Result (Items A) ReadFault
made (Ok _) v = Ok v
made (Err e) v = Err e

-- a call that read a list by p, and answered the rows of its items
abbrev pub ReadsRows : {A B : Type 0} → (ℕ → A → B) → (A → List Cell) → Parser (List A) → BlockReader → BlockReader → Result (Items B) ReadFault → Type 0
ReadsRows row cells p r r' a = ReadsInto (vector_row row cells) (flat_map cells) p r r' a

-- a block that was read as s says: the rows of its nodes, and its cells, for which there is room
pub record BlockStored (s : Result BlockSyntax ReadFault) (c c' : CellStore) (v : Items Node) : Type 0 where
  pub stored : Stored (vector_row node_row node_cells) block_cells (λ b. s ≡ Ok b) c c' v
  pub room : c'.used ≤ length c'.cells.now

abbrev pub GivesBlock : Result BlockSyntax ReadFault → CellStore → CellStore → Result (Items Node) ReadFault → Type 0
GivesBlock s c c' (Ok v) = BlockStored s c c' v
GivesBlock s c c' (Err e) = s ≡ Err e

-- items by p, with how many they are less one before them
abbrev pub counted : {A : Type 0} → Parser A → Parser (List A)
counted p = do
  n ← field 3
  many p (n + 1)

-- the row of nothing but cells
abbrev pub only_cells : ℕ → List Cell → Unit {0}
only_cells from cs = tt

-- the number of an equation's form
abbrev pub form_code : FormKind → ℕ
form_code Plain = 0
form_code Delay = 1
form_code Call = 2

-- what follows the last field, which ends before bit `at`: filling, or a fault
abbrev pub ended : List ℕ → ℕ → Result (Unit {0}) ReadFault
ended bits at = cond (fills (drop at bits)) (Ok tt) (Err (Filling at))
