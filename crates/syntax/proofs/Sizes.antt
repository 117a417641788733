-- Bytes that decode: how many they are, where their fields end, and that what they are fits its fields.
use Rattle.std.proofs.Common.{◌≡◌, ℕ, ◌≤◌, Bool, true, false, cond, ◌&&◌, leb, List, length, drop, Ok, Err, Result, refl, arith}
use Rattle.std.proofs.lemmas.Bool.{and_parts, leb-true, le-leb}
use Rattle.syntax.specs.declared.fault.ReadFault.{ReadFault}
use Rattle.bits.specs.Bits.{bits_of}
use Rattle.bits.proofs.BitLists.{bits_of-bit}
use Rattle.syntax.specs.Syntax.{BlockSyntax}
use Rattle.syntax.specs.Decoder.{read_fields, fills, filled, decode}
use Rattle.syntax.specs.Laws.{Encodable}
use Rattle.syntax.proofs.BlockTrips.{undoes_block}

-- a test that was passed
tested : {A : Type 0} (t : Bool) (r : Result A ReadFault) (f : ReadFault) (x : A) → cond t r (Err f) ≡ Ok x → (t ≡ true) × (r ≡ Ok x)
tested true r f x e = (refl, e)
tested false r f x e = let z : ◌≡◌ {A = ℕ} 0 1 = cc in absurd (omega arith)

-- bytes that decode to b: how many they are, where the fields end, and what follows them
pub record Decoded (bytes : List ℕ) (b : BlockSyntax) : Type 0 where
  pub least : 1 ≤ length bytes
  pub most : length bytes ≤ 2048
  pub end : ℕ
  pub reads : read_fields (bits_of bytes) 0 ≡ Ok (b, end)
  pub filling : fills (drop end (bits_of bytes)) ≡ true

filled_gave : (bits : List ℕ) (r : Result (BlockSyntax × ℕ) ReadFault) (b : BlockSyntax) → filled bits r ≡ Ok b → (q : ℕ) × (r ≡ Ok (b, q)) × (fills (drop q bits) ≡ true)
filled_gave bits (Ok r) b e =
    let p = tested (fills (drop r.1 bits)) (Ok r.0) _ b e in
    let same : r.0 ≡ b = cc p.1 in
    (r.1, rw same, p.0)
filled_gave bits (Err f) b e = let z : ◌≡◌ {A = ℕ} 0 1 = cc in absurd (omega arith)

pub decode_gave : (bytes : List ℕ) (b : BlockSyntax) → decode bytes ≡ Ok b → Decoded bytes b
unfolding decode
decode_gave bytes b e =
    let p = tested (leb 1 (length bytes) && leb (length bytes) 2048) (filled (bits_of bytes) (read_fields (bits_of bytes) 0)) _ b e in
    let n = and_parts (leb 1 (length bytes)) (leb (length bytes) 2048) p.0 in
    let r = filled_gave (bits_of bytes) (read_fields (bits_of bytes) 0) b p.1 in
    record { least = leb-true 1 (length bytes) n.0; most = leb-true (length bytes) 2048 n.1; end = r.0; reads = r.1; filling = r.2 }

pub decode-gives : (bytes bits : List ℕ) (b : BlockSyntax) (q : ℕ) → 1 ≤ length bytes → length bytes ≤ 2048 → bits_of bytes ≡ bits → read_fields bits 0 ≡ Ok (b, q) → fills (drop q bits) ≡ true → decode bytes ≡ Ok b
unfolding decode
decode-gives bytes bits b q k l e r f = rw (le-leb 1 (length bytes) k, le-leb (length bytes) 2048 l, e, r, f)

-- what decodes is encodable
pub decode_encodable : (bytes : List ℕ) (b : BlockSyntax) → decode bytes ≡ Ok b → Encodable b
decode_encodable bytes b e =
    let d = decode_gave bytes b e in
    ((undoes_block.back (bits_of bytes) 0 (bits_of-bit bytes)).made b d.end d.reads).0
