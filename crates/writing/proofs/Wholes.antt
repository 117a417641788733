-- A whole block is written.
use Rattle.std.proofs.Common.{◌≡◌, ◌==◌, ℕ, ◌+◌, ◌-◌, ◌/◌, ◌≤◌, true, false, List, [], ◌∷◌, ◌++◌, map, length, drop, replicate, is_ok, Ok, Err, Result, sym, refl, ap, ◌∙◌, arith, length-append, append_assoc}
use lib.ListN.{length-map}
use Rattle.std.specs.Int.{div_ceil}
use Rattle.std.proofs.lemmas.Bool.{eqb-true, eqb-false, le-leb}
use Rattle.bits.specs.Bits.{digits, bytes_of}
use Rattle.bits.specs.Overwriting.{set_bits}
use Rattle.bits.proofs.BitLists.{length_digits}
use Rattle.bits.proofs.ByteLists.{length-bytes_of, set_bits_over_zeros}
use Rattle.bits.proofs.SetBits.{set_bits_none, set_bits-append}
use Rattle.syntax.specs.declared.cell.Cell.{Cell}
use Rattle.syntax.specs.declared.fault.ReadFault.{ReadFault}
use Rattle.syntax.specs.Syntax.{BlockSyntax}
use Rattle.syntax.specs.Decoder.{decode}
use Rattle.syntax.specs.Encoder.{Field, fields_bits, block_fields, encode}
use Rattle.syntax.proofs.Sizes.{decode_gave}
use Rattle.syntax.proofs.Trips.{fields_bits_bits}
use Rattle.layout.specs.declared.node.Node.{Node}
use Rattle.layout.specs.Layout.{node_in}
use Rattle.layout.specs.declared.table.Table.{Table}
use Rattle.layout.specs.Held.{readable, block_in, write_answer, write_bytes}
use Rattle.writing.specs.Writing.{size, put_fields}

length_fields : (fs : List Field) → length (fields_bits fs) ≡ size fs
length_fields [] = refl
length_fields (f ∷ fs) =
    simp length-append (λ i. length_digits f.0 f.1 i + length_fields fs i)

put_bits : (out : List ℕ) (at : ℕ) (fs : List Field) → put_fields out at fs ≡ set_bits out at (fields_bits fs)
put_bits out at [] = sym (set_bits_none out at)
put_bits out at (f ∷ fs) =
    let d = digits f.0 f.1 in
    put_bits (set_bits out at d) (at + f.0) fs
    ∙ ap (λ k. set_bits (set_bits out at d) (at + k) (fields_bits fs)) (sym (length_digits f.0 f.1))
    ∙ sym (set_bits-append out at d (fields_bits fs))

encode_none : (b : BlockSyntax) → length b ≡ 0 → encode b ≡ []
unfolding encode
encode_none [] h = refl
encode_none (n ∷ ns) h = absurd (omega arith)

encode-some : (b : BlockSyntax) → 1 ≤ length b → encode b ≡ bytes_of (fields_bits (block_fields b))
unfolding encode
encode-some [] h = absurd (omega arith)
encode-some (n ∷ ns) h = refl

-- what can be read again has at most 2,048 bytes
gave_most : (bytes : List ℕ) (r : Result BlockSyntax ReadFault) → decode bytes ≡ r → is_ok r ≡ true → length bytes ≤ 2048
gave_most bytes (Ok b) e h = (decode_gave bytes b e).most
gave_most bytes (Err f) e h = let z : ◌≡◌ {A = ℕ} 0 1 = cc in absurd (omega arith)

pub readable_fits : (b : BlockSyntax) → readable b ≡ true → length (encode b) ≤ 2048
readable_fits [] h = omega (arith, ap length (encode_none [] refl))
readable_fits (n ∷ ns) h = gave_most (encode (n ∷ ns)) (decode (encode (n ∷ ns))) refl h

-- the block of a table by its rows
pub block_of_rows : (t : Table) → block_in t ≡ map (node_in t.store.cells.now) t.nodes.items
unfolding block_in
block_of_rows t = refl

-- writing the block b of these rows
module _ (cells : List Cell) (rows : List Node) (b : BlockSyntax) (e : b ≡ map (node_in cells) rows) where
  count : length b ≡ length rows
  count = ap length e ∙ length-map rows (node_in cells)

  -- with no node it leaves zeros
  module _ (none : true ≡ (length rows == 0)) (out : List ℕ) (long : 2048 ≤ length out) where
    empty : encode b ≡ []
    empty = encode_none b (count ∙ eqb-true (length rows) 0 (sym none))

    pub none_answer : Ok 0 ≡ write_answer b (length out)
    none_answer = rw (le-leb 2048 (length out) long, empty)

    pub none_bytes : replicate 2048 0 ++ drop 2048 out ≡ write_bytes b out
    none_bytes = rw (le-leb 2048 (length out) long, empty)

  -- with some it fits the bits of 2,048 bytes, and leaves its bytes over the zeros
  module _ (some : false ≡ (length rows == 0)) (fits : length (encode b) ≤ 2048) where
    bytes : encode b ≡ bytes_of (fields_bits (block_fields b))
    bytes = encode-some b (omega (arith, count, eqb-false (length rows) 0 (sym some)))

    bits : length (encode b) ≡ (size (block_fields b) + 7) / 8
    bits = ap length bytes ∙ length-bytes_of (fields_bits (block_fields b)) ∙ ap (λ n. (n + 7) / 8) (length_fields (block_fields b))

    fit : size (block_fields b) ≤ 16384
    fit = omega (arith, bits)

    pub some_fit : size (block_fields (map (node_in cells) rows)) ≤ 16384
    some_fit = rw e at fit

    module _ (out : List ℕ) (long : 2048 ≤ length out) where
      pub some_answer : Ok (div_ceil (size (block_fields (map (node_in cells) rows))) 8) ≡ write_answer b (length out)
      some_answer =
          let n : div_ceil (size (block_fields b)) 8 ≡ length (encode b) = omega (arith, bits) in
          rw (le-leb 2048 (length out) long, ← e) (ap Ok n)

      pub some_bytes : put_fields (replicate 2048 0) 0 (block_fields (map (node_in cells) rows)) ++ drop 2048 out ≡ write_bytes b out
      some_bytes =
          let fs = block_fields b in
          let s = length_fields fs in
          let rest = drop 2048 out in
          let w = put_bits (replicate 2048 0) 0 fs ∙ set_bits_over_zeros 2048 (fields_bits fs) (omega (arith, fit)) (fields_bits_bits fs) in
          let a = append_assoc (bytes_of (fields_bits fs)) (replicate (2048 - length (bytes_of (fields_bits fs))) 0) rest in
          rw (le-leb 2048 (length out) long, ← e) (ap (λ zs. zs ++ rest) w ∙ a ∙ sym (ap (λ bs. bs ++ (replicate (2048 - length bs) 0 ++ drop 2048 out)) bytes))
