-- How one reading follows another.
use Rattle.std.proofs.Common.{◌≡◌, ℕ, ◌+◌, List, [], ◌∷◌, length, get_or, Ok, Err, Result, sym, refl, ap, ◌∙◌, add-zero, arith}
use Rattle.syntax.specs.declared.cell.Cell.{Cell}
use Rattle.syntax.specs.declared.fault.ReadFault.{ReadFault}
use Rattle.syntax.specs.Parse.{Parser, ◌>>=◌, gives}
use Rattle.std.specs.List.{flat_map}
use Rattle.bits.specs.Bits.{bits_of}
use Rattle.bits.specs.Overwriting.{written}
use Rattle.bits.proofs.Written.{written_none}
use Rattle.layout.specs.Vectors.{Items}
use Rattle.layout.specs.declared.store.CellStore.{CellStore}
use Rattle.layout.specs.Blanks.{blank_cell}
use Rattle.layout.specs.Layout.{rows_from}
use Rattle.reading.specs.declared.reader.BlockReader.{BlockReader}
use Rattle.reading.specs.Storing.{TakesAs, Grown, Moved, ReadsInto, ReadsRows, as_is, no_cells}

pub not_moved : (r : BlockReader) → Moved r r
not_moved r = record { bytes = refl; on = omega arith; store = refl; grown = record { long = refl; more = omega arith; past = λ i h. refl } }

pub grown_on : {a b c : CellStore} → Grown a b → Grown b c → Grown a c
grown_on g h = record { long = h.long ∙ g.long; more = omega (arith, g.more, h.more); past = λ i l. h.past i l ∙ g.past i (omega (arith, h.more)) }

pub moved_on : {a b c : BlockReader} → Moved a b → Moved b c → Moved a c
moved_on m n = record { bytes = n.bytes ∙ m.bytes; on = omega (arith, m.on, n.on); store = n.store ∙ m.store; grown = grown_on m.grown n.grown }

-- what stored nothing moved on
pub takes_moved : {A B : Type 0} {number : B → A} {p : Parser A} {r r' : BlockReader} {a : Result B ReadFault} → TakesAs number p r r' a → Moved r r'
takes_moved t = record {
  bytes = t.bytes;
  on = t.on;
  store = ap (λ s. s.ghost_name) t.store;
  grown = record {
    long = ap (λ s. length s.now.cells.now) t.store;
    more = omega (arith, ap (λ s. s.now.used) t.store);
    past = λ i h. ap (λ s. get_or s.now.cells.now i blank_cell) t.store;
  };
}

-- a reading that stored nothing, as one that stores
pub takes_into : {A : Type 0} {p : Parser A} {r r' : BlockReader} {a : Result A ReadFault} → TakesAs (λ x. x) p r r' a → ReadsInto as_is no_cells p r r' a
takes_into {r = r} {a = Ok v} t = record {
  moved = takes_moved t;
  gives = record {
    item = v;
    reads = t.gives;
    is = refl;
    held = ap (λ s. s.now.cells.now) t.store ∙ sym (written_none r.store.now.cells.now r.store.now.used);
    fills = ap (λ s. s.now.used) t.store ∙ sym (add-zero r.store.now.used);
  };
}
takes_into {a = Err e} t = record { moved = takes_moved t; gives = t.gives }

-- a vector of items that have no cells is the list of these
rows_as_is : {A : Type 0} (from : ℕ) (xs : List A) → rows_from as_is no_cells from xs ≡ xs
unfolding rows_from
rows_as_is from [] = refl
rows_as_is from (x ∷ xs) = ap (λ ys. x ∷ ys) (rows_as_is (from + 0) xs)

no_cells_at_all : {A : Type 0} (xs : List A) → flat_map {X = A} no_cells xs ≡ []
no_cells_at_all [] = refl
no_cells_at_all (x ∷ xs) = no_cells_at_all xs

-- x was read, and the cells are as before
record Passed {A : Type 0} (p : Parser A) (r r' : BlockReader) (x : A) : Type 0 where
  moved : Moved r r'
  gives : p (bits_of r.bytes.now) r.at ≡ Ok (x, r'.at)
  cells : r'.store.now.cells.now ≡ r.store.now.cells.now
  used : r'.store.now.used ≡ r.store.now.used

passed_take : {A B : Type 0} {number : B → A} {p : Parser A} {r r' : BlockReader} {v : B} → TakesAs number p r r' (Ok v) → Passed p r r' (number v)
passed_take t = record { moved = takes_moved t; gives = t.gives; cells = ap (λ s. s.now.cells.now) t.store; used = ap (λ s. s.now.used) t.store }

passed_rows : {A : Type 0} {p : Parser (List A)} {r r' : BlockReader} {v : Items A} → ReadsRows as_is no_cells p r r' (Ok v) → Passed p r r' v.items
passed_rows {r = r} {r' = r'} t =
    let g = t.gives in
    let c = r.store.now in
    let none = no_cells_at_all g.item in
    record {
      moved = t.moved;
      gives = g.reads ∙ ap (λ xs. Ok (xs, r'.at)) (sym (ap (λ v. v.items) g.is ∙ rows_as_is c.used g.item));
      cells = g.held ∙ ap (written c.cells.now c.used) none ∙ written_none c.cells.now c.used;
      used = g.fills ∙ ap (λ cs. c.used + length cs) none ∙ add-zero c.used;
    }

module _ {A C D : Type 0} {row : ℕ → C → D} {cells : C → List Cell} (p : Parser A) (k : A → Parser C) {r q : BlockReader} where
  then_passed : {x : A} {r' : BlockReader} {a : Result D ReadFault} → Passed p r q x → ReadsInto row cells (k x) q r' a → ReadsInto row cells (◌>>=◌ p k) r r' a
  then_passed {a = Ok w} t u = let g = u.gives in record {
    moved = moved_on t.moved u.moved;
    gives = record {
      item = g.item;
      reads = rw (t.gives, ← t.moved.bytes) g.reads;
      is = g.is ∙ ap (λ n. row n g.item) t.used;
      held = g.held ∙ (λ i. written (t.cells i) (t.used i) (cells g.item));
      fills = g.fills ∙ ap (λ n. n + length (cells g.item)) t.used;
    };
  }
  then_passed {a = Err e} t u = record { moved = moved_on t.moved u.moved; gives = rw (t.gives, ← t.moved.bytes) u.gives }

  -- a field, and then what is stored
  pub then_take : {B : Type 0} {number : B → A} {v : B} {r' : BlockReader} {a : Result D ReadFault} → TakesAs number p r q (Ok v) → ReadsInto row cells (k (number v)) q r' a → ReadsInto row cells (◌>>=◌ p k) r r' a
  then_take t u = then_passed (passed_take t) u

  -- the last part, which is the item but for what was read before
  pub ends_into : {B : Type 0} {row' : ℕ → A → B} {cells' : A → List Cell} {v : B} {w : D} (f : A → C) → ReadsInto row' cells' p r q (Ok v) → ((from : ℕ) (x : A) → v ≡ row' from x → w ≡ row from (f x)) → ((x : A) → cells (f x) ≡ cells' x) → ((x : A) → k x ≡ gives (f x)) → ReadsInto row cells (◌>>=◌ p k) r q (Ok w)
  ends_into {row' = row'} {v = v} f t same held last = let g = t.gives in record {
    moved = t.moved;
    gives = record {
      item = f g.item;
      reads = rw (g.reads, last g.item);
      is = same r.store.now.used g.item g.is;
      held = g.held ∙ ap (written r.store.now.cells.now r.store.now.used) (sym (held g.item));
      fills = g.fills ∙ ap (λ cs. r.store.now.used + length cs) (sym (held g.item));
    };
  }

module _ {A C D : Type 0} {row : ℕ → C → D} {cells : C → List Cell} (p : Parser (List A)) (k : List A → Parser C) {r q : BlockReader} where
  -- a vector of items that have no cells, and then what is stored
  pub then_rows : {v : Items A} {r' : BlockReader} {a : Result D ReadFault} → ReadsRows as_is no_cells p r q (Ok v) → ReadsInto row cells (k v.items) q r' a → ReadsInto row cells (◌>>=◌ p k) r r' a
  then_rows t u = then_passed p k (passed_rows t) u
