-- What loops keep that read one thing after another and store cells.
use Rattle.std.proofs.Common.{◌≡◌, ℕ, ◌+◌, ◌<◌, ◌≤◌, List, [], ◌∷◌, ◌++◌, length, get_or, set, Ok, Err, sym, refl, ap, ◌∙◌, add-zero, arith, length-append, length-set, get_or-set_other}
use Rattle.syntax.specs.declared.cell.Cell.{Cell}
use Rattle.syntax.specs.declared.fault.ReadFault.{ReadFault}
use Rattle.syntax.specs.Parse.{Parser, many}
use Rattle.std.specs.List.{flat_map}
use Rattle.bits.specs.Bits.{bits_of}
use Rattle.bits.specs.Overwriting.{written}
use Rattle.bits.proofs.Written.{written_none, written-push, written-append}
use Rattle.layout.specs.Blanks.{blank_cell}
use Rattle.layout.specs.Layout.{whole, rows_from}
use Rattle.layout.proofs.Lists.{flat_map-push, rows_none, rows_push}
use Rattle.reading.specs.declared.reader.BlockReader.{BlockReader}
use Rattle.reading.specs.Storing.{Moved, TakesAs, ReadsInto, ReadsRows, only_cells}
use Rattle.reading.proofs.Gathering.{Gathered, gathered_none, gathered_more, gathered_stops, gathered_all}
use Rattle.reading.proofs.Steps.{not_moved, moved_on, takes_moved}

-- k of n were read, from r₀ to r, and their rows are out
pub record Storing {A B : Type 0} (row : ℕ → A → B) (cells : A → List Cell) (p : Parser A) (n : ℕ) (r₀ : BlockReader) (k : ℕ) (r : BlockReader) (out : List B) : Type 0 where
  pub items : List A
  pub gathered : Gathered p n (bits_of r₀.bytes.now) r₀.at k r.at items
  pub rows : out ≡ rows_from row cells r₀.store.now.used items
  pub long : length out ≡ k
  pub held : r.store.now.cells.now ≡ written r₀.store.now.cells.now r₀.store.now.used (flat_map cells items)
  pub fills : r.store.now.used ≡ r₀.store.now.used + length (flat_map cells items)
  pub moved : Moved r₀ r

pub storing_none : {A B : Type 0} (row : ℕ → A → B) (cells : A → List Cell) (p : Parser A) (n : ℕ) (r : BlockReader) → Storing row cells p n r 0 r []
storing_none row cells p n r = let c = r.store.now in record {
  items = [];
  gathered = gathered_none p n (bits_of r.bytes.now) r.at;
  rows = sym (rows_none row cells c.used);
  long = refl;
  held = sym (written_none c.cells.now c.used);
  fills = sym (add-zero c.used);
  moved = not_moved r;
}

module _ {A B : Type 0} {row : ℕ → A → B} {cells : A → List Cell} {p : Parser A} {n : ℕ} {r₀ : BlockReader} {k : ℕ} {r : BlockReader} {out : List B} (f : Storing row cells p n r₀ k r out) where
  pub storing_more : k < n → {r' : BlockReader} {v : B} → ReadsInto row cells p r r' (Ok v) → Storing row cells p n r₀ (k + 1) r' (out ++ (v ∷ []))
  storing_more h {r'} {v} u =
      let s = u.gives in
      let x = s.item in
      let c₀ = r₀.store.now in
      let e : p (bits_of r₀.bytes.now) r.at ≡ Ok (x, r'.at) = rw f.moved.bytes at s.reads in
      record {
        items = f.items ++ (x ∷ []);
        gathered = gathered_more p n (bits_of r₀.bytes.now) r₀.at x r'.at f.gathered h e;
        rows = (λ i. f.rows i ++ ((s.is ∙ ap (λ j. row j x) f.fills) i ∷ [])) ∙ sym (rows_push row cells c₀.used f.items x);
        long = simp length-append (omega (arith, f.long));
        held =
            s.held
            ∙ (λ i. written (f.held i) (f.fills i) (cells x))
            ∙ sym (ap (written c₀.cells.now c₀.used) (flat_map-push cells f.items x) ∙ written-append c₀.cells.now c₀.used (flat_map cells f.items) (cells x));
        fills = s.fills ∙ ap (λ j. j + length (cells x)) f.fills ∙ sym (ap (λ xs. c₀.used + length xs) (flat_map-push cells f.items x) ∙ simp length-append (omega arith));
        moved = moved_on f.moved u.moved;
      }

  pub storing_stops : k < n → {r' : BlockReader} {e : ReadFault} → ReadsInto row cells p r r' (Err e) → ReadsRows row cells (many p n) r₀ r' (Err e)
  storing_stops h {r'} {e} u = record {
    moved = moved_on f.moved u.moved;
    gives = gathered_stops p n (bits_of r₀.bytes.now) r₀.at e f.gathered h (rw f.moved.bytes at u.gives);
  }

  pub storing_all : n ≤ k → ReadsRows row cells (many p n) r₀ r (Ok (record { items = out }))
  storing_all h = record {
    moved = f.moved;
    gives = record {
      item = f.items;
      reads = gathered_all p n (bits_of r₀.bytes.now) r₀.at f.gathered h;
      is = λ i. record { items = f.rows i };
      held = f.held;
      fills = f.fills;
    };
  }

-- k of n cells were read into the store, from r₀ to r
pub record CellStoring (p : Parser Cell) (n : ℕ) (r₀ : BlockReader) (k : ℕ) (r : BlockReader) : Type 0 where
  pub items : List Cell
  pub gathered : Gathered p n (bits_of r₀.bytes.now) r₀.at k r.at items
  pub held : r.store.now.cells.now ≡ written r₀.store.now.cells.now r₀.store.now.used items
  pub fills : r.store.now.used ≡ r₀.store.now.used + length items
  pub moved : Moved r₀ r

pub cells_none : (p : Parser Cell) (n : ℕ) (r : BlockReader) → CellStoring p n r 0 r
cells_none p n r = record {
  items = [];
  gathered = gathered_none p n (bits_of r.bytes.now) r.at;
  held = sym (written_none r.store.now.cells.now r.store.now.used);
  fills = sym (add-zero r.store.now.used);
  moved = not_moved r;
}

module _ {p : Parser Cell} {n : ℕ} {r₀ : BlockReader} {k : ℕ} {r : BlockReader} (f : CellStoring p n r₀ k r) where
  pub cells_stops : k < n → {r' : BlockReader} {e : ReadFault} → TakesAs (λ x. x) p r r' (Err e) → ReadsInto only_cells whole (many p n) r₀ r' (Err e)
  cells_stops h {r'} {e} u = record {
    moved = moved_on f.moved (takes_moved u);
    gives = gathered_stops p n (bits_of r₀.bytes.now) r₀.at e f.gathered h (rw f.moved.bytes at u.gives);
  }

  pub cells_all : n ≤ k → ReadsInto only_cells whole (many p n) r₀ r (Ok tt)
  cells_all h = record {
    moved = f.moved;
    gives = record {
      item = f.items;
      reads = gathered_all p n (bits_of r₀.bytes.now) r₀.at f.gathered h;
      is = refl;
      held = f.held;
      fills = f.fills;
    };
  }

  pub cells_more : k < n → {r₁ r' : BlockReader} {x : Cell} → TakesAs (λ x. x) p r r₁ (Ok x) → r'.bytes.now ≡ r₁.bytes.now → r'.at ≡ r₁.at → r'.store.ghost_name ≡ r₁.store.ghost_name → r'.store.now.cells.now ≡ set r₁.store.now.cells.now r₁.store.now.used x → r'.store.now.used ≡ r₁.store.now.used + 1 → CellStoring p n r₀ (k + 1) r'
  cells_more h {r₁} {r'} {x} t b q g a u =
      let c₀ = r₀.store.now in
      let e : p (bits_of r₀.bytes.now) r.at ≡ Ok (x, r'.at) = rw (f.moved.bytes, ← q) at t.gives in
      let m : Moved r₁ r' = record {
        bytes = b;
        on = omega (arith, q);
        store = g;
        grown = record {
          long = ap length a ∙ length-set r₁.store.now.cells.now r₁.store.now.used x;
          more = omega (arith, u);
          past = λ i l. ap (λ xs. get_or xs i blank_cell) a ∙ get_or-set_other r₁.store.now.cells.now r₁.store.now.used i x blank_cell (λ j. omega (arith, u));
        };
      } in
      let s : r₁.store.now.cells.now ≡ written c₀.cells.now c₀.used f.items = ap (λ s. s.now.cells.now) t.store ∙ f.held in
      let v : r₁.store.now.used ≡ c₀.used + length f.items = ap (λ s. s.now.used) t.store ∙ f.fills in
      record {
        items = f.items ++ (x ∷ []);
        gathered = gathered_more p n (bits_of r₀.bytes.now) r₀.at x r'.at f.gathered h e;
        held = a ∙ (λ i. set (s i) (v i) x) ∙ sym (written-push c₀.cells.now c₀.used f.items x);
        fills = u ∙ ap (λ j. j + 1) v ∙ simp length-append (omega arith);
        moved = moved_on f.moved (moved_on (takes_moved t) m);
      }
