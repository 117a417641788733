-- From what was read to the block that the rows hold.
use Rattle.std.proofs.Common.{◌≡◌, ℕ, ◌+◌, ◌<◌, ◌≤◌, true, false, List, [], length, get_or, drop, Ok, Result, sym, ap, ◌∙◌, ⊎_elim, zero-add, arith}
use Rattle.std.proofs.lemmas.List.{get_or_past}
use Rattle.std.proofs.lemmas.Bool.{le-leb, cases_lt, cases_Bool}
use Rattle.syntax.specs.declared.fault.ReadFault.{ReadFault}
use Rattle.syntax.specs.Syntax.{BlockSyntax}
use Rattle.syntax.specs.Decoder.{read_fields, fills, filled, decode, decode_into}
use Rattle.bits.specs.Bits.{bits_of}
use Rattle.bits.specs.Overwriting.{written}
use Rattle.bits.proofs.Written.{written_at, written_after, length-written}
use Rattle.layout.specs.Vectors.{Items}
use Rattle.layout.specs.declared.node.Node.{Node}
use Rattle.layout.specs.declared.store.CellStore.{CellStore}
use Rattle.layout.specs.declared.table.Table.{Table}
use Rattle.layout.specs.Blanks.{blank_cell}
use Rattle.layout.specs.Layout.{rows_from, node_row, node_cells, block_cells}
use Rattle.layout.specs.Held.{Holds}
use Rattle.layout.proofs.Lists.{rows_none}
use Rattle.reading.specs.declared.reader.BlockReader.{BlockReader}
use Rattle.reading.specs.Storing.{ended, Grown, Stored, vector_row, BlockStored}

ended_ok : (bits : List ℕ) (b : BlockSyntax) (q : ℕ) → ended bits q ≡ Ok tt → filled bits (Ok (b, q)) ≡ Ok b
ended_ok bits b q h =
    ⊎_elim
    (λ (e : fills (drop q bits) ≡ true). rw e)
    (λ (e : fills (drop q bits) ≡ false). let g = rw e at h in let z : ◌≡◌ {A = ℕ} 0 1 = cc in absurd (omega arith))
    (cases_Bool (fills (drop q bits)))

-- the fields, and filling after them
module _ (n : ℕ) (bytes : List ℕ) (wide : 4096 ≤ n) (least : 1 ≤ length bytes) (most : length bytes ≤ 2048) where
  pub reads_all : (b : BlockSyntax) (q : ℕ) → read_fields (bits_of bytes) 0 ≡ Ok (b, q) → ended (bits_of bytes) q ≡ Ok tt → decode_into n bytes ≡ Ok b
  unfolding decode
  reads_all b q e f = rw (le-leb 4096 n wide, le-leb 1 (length bytes) least, le-leb (length bytes) 2048 most, e) (ended_ok (bits_of bytes) b q f)

-- a store that is as a reader left it
module _ (c : CellStore) (r : BlockReader) (e : CellStore) (h : e ≡ r.store.now) where
  pub grown_to : Grown c r.store.now → Grown c e
  grown_to g = rw h g

  pub block_to : {said : BlockSyntax → Type 0} {s : Result BlockSyntax ReadFault} {v : Items Node} → ((b : BlockSyntax) → said b → s ≡ Ok b) → Stored (vector_row node_row node_cells) block_cells said c r.store.now v → BlockStored s c e v
  block_to f g = record {
    stored = record { item = g.item; reads = f g.item g.reads; is = g.is; held = rw h g.held; fills = rw h g.fills };
    room = rw h (omega (arith, r.taken, r.wide, r.within, r.short));
  }

-- blank rows
module _ (t : Table) (h : Holds t []) where
  pub none_used : t.store.used ≡ 0
  none_used = h.used

  pub none_read : t.nodes.items ≡ []
  none_read = h.nodes ∙ rows_none node_row node_cells 0

  none_cells : (i : ℕ) → get_or t.store.cells.now i blank_cell ≡ blank_cell
  none_cells i = h.cells i

-- rows whose table is blank hold nothing
pub holds_none : (t : Table) → t.nodes.items ≡ [] → t.store.used ≡ 0 → ((i : ℕ) → get_or t.store.cells.now i blank_cell ≡ blank_cell) → Holds t []
holds_none t n u b = record {
  nodes = n ∙ sym (rows_none node_row node_cells 0);
  used = u;
  cells = b;
  room = omega (arith, u);
}

-- what was stored over blank rows is the block that they hold
pub holds_loaded : (t : Table) (nodes : Items Node) (c : CellStore) {s : Result BlockSyntax ReadFault} → Holds t [] → (g : BlockStored s t.store c nodes) → Holds (record { nodes = nodes; store = c }) g.stored.item
holds_loaded t nodes c h g =
    let f = g.stored in
    let room = g.room in
    let b = f.item in
    let u = none_used t h in
    let long : c.used ≡ length (block_cells b) = f.fills ∙ ap (λ k. k + length (block_cells b)) u ∙ zero-add (length (block_cells b)) in
    let held : c.cells.now ≡ written t.store.cells.now 0 (block_cells b) = f.held ∙ ap (λ k. written t.store.cells.now k (block_cells b)) u in
    let same : length c.cells.now ≡ length t.store.cells.now = ap length held ∙ length-written t.store.cells.now 0 (block_cells b) in
    record {
      nodes = ap (λ v. v.items) f.is ∙ ap (λ k. rows_from node_row node_cells k b) u;
      used = long;
      cells = λ i.
          ap (λ cs. get_or cs i blank_cell) held
          ∙ ⊎_elim
          (λ (l : i < length (block_cells b)). ap (λ j. get_or (written t.store.cells.now 0 (block_cells b)) j blank_cell) (sym (zero-add i)) ∙ written_at t.store.cells.now 0 (block_cells b) i blank_cell l (omega (arith, long, room, same)))
          (λ (l : length (block_cells b) ≤ i). written_after t.store.cells.now 0 (block_cells b) i blank_cell (omega arith) ∙ none_cells t h i ∙ sym (get_or_past (block_cells b) i blank_cell l))
          (cases_lt i (length (block_cells b)));
      room = room;
    }
