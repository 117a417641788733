-- What rows keep from call to call.
use Rattle.std.proofs.Common.{◌≡◌, ℕ, ◌≤◌, true, false, leb, List, [], ◌∷◌, get_or, is_ok, Ok, Err, Result, refl, ap, ◌∙◌, ⊎_elim, arith}
use Rattle.std.proofs.lemmas.List.{get_or_past}
use Rattle.std.proofs.lemmas.Bool.{cases_Bool}
use Rattle.syntax.specs.declared.fault.ReadFault.{ReadFault}
use Rattle.syntax.specs.Syntax.{BlockSyntax}
use Rattle.syntax.specs.Decoder.{decode, decode_into}
use Rattle.syntax.specs.Encoder.{encode}
use Rattle.syntax.proofs.Sizes.{decode_encodable}
use Rattle.syntax.proofs.Trips.{round_trip}
use Rattle.bits.specs.Bits.{Bytes}
use Rattle.layout.specs.declared.table.Table.{Table}
use Rattle.layout.specs.Blanks.{blank_cell}
use Rattle.layout.specs.Layout.{block_cells}
use Rattle.layout.specs.Held.{Holds, block_in, is_blank, readable, read_answer, read_block}
use Rattle.layout.proofs.Backward.{holds_block}

-- past the cells of the block that rows hold they are blank
pub held_past : (t : Table) (b : BlockSyntax) → Holds t b → (i : ℕ) → t.store.used ≤ i → is_blank (get_or t.store.cells.now i blank_cell) ≡ true
held_past t b h i l = ap is_blank (h.cells i ∙ get_or_past (block_cells b) i blank_cell (omega (arith, h.used)))

into_decode : (n : ℕ) (bytes : List ℕ) (b : BlockSyntax) → decode_into n bytes ≡ Ok b → decode bytes ≡ Ok b
into_decode n bytes b e =
    ⊎_elim
    (λ (w : leb 4096 n ≡ true). rw w at e)
    (λ (w : leb 4096 n ≡ false). let g = rw w at e in let z : ◌≡◌ {A = ℕ} 0 1 = cc in absurd (omega arith))
    (cases_Bool (leb 4096 n))

readable-some : (b : BlockSyntax) → decode (encode b) ≡ Ok b → readable b ≡ true
readable-some [] e = refl
readable-some (n ∷ ns) e = ap is_ok e

module _ (n : ℕ) (bytes : List ℕ) where
  stands_by : (t : Table) (r : Result BlockSyntax ReadFault) → decode_into n bytes ≡ r → Holds t (read_block r) → block_in t ≡ read_block r
  stands_by t (Ok b) e h =
      let g = decode_encodable bytes b (into_decode n bytes b e) in
      holds_block t b g.1 h
  stands_by t (Err f) e h = holds_block t [] tt h

  pub read_stands : (t : Table) → Holds t (read_block (decode_into n bytes)) → block_in t ≡ read_block (decode_into n bytes)
  read_stands t h = stands_by t (decode_into n bytes) refl h

  module _ (small : Bytes bytes) where
    readable_by : (r : Result BlockSyntax ReadFault) → decode_into n bytes ≡ r → readable (read_block r) ≡ true
    readable_by (Ok b) e =
        let d = into_decode n bytes b e in
        let g = round_trip.back bytes b small d in
        readable-some b (ap decode g.1 ∙ d)
    readable_by (Err f) e = refl

    pub read_readable : readable (read_block (decode_into n bytes)) ≡ true
    read_readable = readable_by (decode_into n bytes) refl

    back_by : (r : Result BlockSyntax ReadFault) → decode_into n bytes ≡ r → read_answer r ≡ Ok tt → encode (read_block r) ≡ bytes
    back_by (Ok b) e a = (round_trip.back bytes b small (into_decode n bytes b e)).1
    back_by (Err f) e a = let z : ◌≡◌ {A = ℕ} 0 1 = cc in absurd (omega arith)

    pub read_back : read_answer (decode_into n bytes) ≡ Ok tt → encode (read_block (decode_into n bytes)) ≡ bytes
    read_back a = back_by (decode_into n bytes) refl a
