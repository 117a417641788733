-- Decoding and encoding undo each other.
use Rattle.std.proofs.Common.{◌≡◌, ℕ, zero, suc, ◌+◌, ◌-◌, ◌*◌, ◌/◌, ◌^◌, ◌<◌, ◌≤◌, true, eqb, ltb, List, [], ◌∷◌, ◌++◌, length, drop, replicate, Ok, sym, refl, ap, ◌∙◌, arith, length-append}
use native.Mathlib.Nat.{zero-div}
use lib.ListN.{length-replicate}
use Rattle.std.proofs.lemmas.Nat.{pow_pos}
use Rattle.std.proofs.lemmas.List.{get_or-drop, drop_at}
use Rattle.std.proofs.lemmas.Bool.{and_parts, and_from, ltb-true, lt-ltb, eqb-true, eq-eqb}
use Rattle.bits.specs.Bits.{bits_of, number_of, digits, bytes_of, Bytes}
use Rattle.bits.proofs.BitLists.{length_bits, bits_of-bit, length_digits, digits-bit, digits_front, number_digits, digits_number}
use Rattle.bits.proofs.ByteLists.{length-bytes_of, bytes_of_bits, bytes_fill, bits_of-bytes_of}
use Rattle.syntax.specs.Syntax.{BlockSyntax}
use Rattle.syntax.specs.Decoder.{fills, decode}
use Rattle.syntax.specs.Encoder.{Field, field_bits, fields_bits, block_fields, encode}
use Rattle.syntax.specs.Laws.{Encodable, RoundTrip}
use Rattle.syntax.proofs.Standing.{AreBits, stands_laid, laid_stands}
use Rattle.syntax.proofs.BlockTrips.{undoes_block}
use Rattle.syntax.proofs.Sizes.{decode_gave, decode-gives, decode_encodable}

bits_append : (xs ys : List ℕ) → AreBits xs → AreBits ys → AreBits (xs ++ ys)
bits_append [] ys a b i = b i
bits_append (x ∷ xs) ys a b zero = a 0
bits_append (x ∷ xs) ys a b (suc i) = bits_append xs ys (λ j. a (suc j)) b i

pub fields_bits_bits : (fs : List Field) → AreBits (fields_bits fs)
fields_bits_bits [] i = omega arith
fields_bits_bits (f ∷ fs) i = bits_append (field_bits f) (fields_bits fs) (digits-bit f.0 f.1) (fields_bits_bits fs) i

digits_zero : (n : ℕ) → digits n 0 ≡ replicate n 0
unfolding digits
digits_zero zero = refl
digits_zero (suc n) = digits_front n 0 ∙ rw (zero-div (2 ^ n), digits_zero n)

-- what fills is fewer than eight zeros
pub fills_zeros : (rest : List ℕ) → AreBits rest → fills rest ≡ true → (length rest < 8) × (rest ≡ replicate (length rest) 0)
fills_zeros rest h e =
    let p = and_parts (ltb (length rest) 8) (eqb (number_of rest) 0) e in
    let z = eqb-true (number_of rest) 0 p.1 in
    (ltb-true (length rest) 8 p.0, sym (digits_number rest h) ∙ rw z (digits_zero (length rest)))

zeros_fill : (n : ℕ) → n < 8 → fills (replicate n 0) ≡ true
zeros_fill n h =
    let l : length (replicate n 0) < 8 = simp length-replicate h in
    let z : number_of (replicate n 0) ≡ 0 = rw (digits_zero n) at (number_digits n 0 (pow_pos n)) in
    and_from (ltb (length (replicate n 0)) 8) (eqb (number_of (replicate n 0)) 0) (lt-ltb (length (replicate n 0)) 8 l) (eq-eqb (number_of (replicate n 0)) 0 z)

encode-some : (b : BlockSyntax) → 1 ≤ length b → encode b ≡ bytes_of (fields_bits (block_fields b))
unfolding encode
encode-some [] h = absurd (omega arith)
encode-some (n ∷ ns) h = refl

-- the bits of what decodes: those of its fields, and fewer than eight zeros
pub decode_bits : (bytes : List ℕ) (b : BlockSyntax) → decode bytes ≡ Ok b → (n : ℕ) × (n < 8) × (bits_of bytes ≡ fields_bits (block_fields b) ++ replicate n 0)
decode_bits bytes b e =
    let d = decode_gave bytes b e in
    let bits : List ℕ = bits_of bytes in
    let h = bits_of-bit bytes in
    let s = ((undoes_block.back bits 0 h).made b d.end d.reads).1 in
    let l = stands_laid bits 0 (block_fields b) d.end h (omega arith) s in
    let rest : List ℕ = drop d.end bits in
    let z = fills_zeros rest (λ i. rw (get_or-drop d.end bits i 0) (h (d.end + i))) d.filling in
    (length rest, z.0, l.laid ∙ ap (λ r. fields_bits (block_fields b) ++ r) z.1)

trip_back : (bytes : List ℕ) (b : BlockSyntax) → Bytes bytes → decode bytes ≡ Ok b → Encodable b × (encode b ≡ bytes)
trip_back bytes b h e =
    let g = decode_encodable bytes b e in
    let d = decode_bits bytes b e in
    let own : List ℕ = fields_bits (block_fields b) in
    let whole : length own + d.0 ≡ 8 * length bytes = sym (length-append own (replicate d.0 0) ∙ ap (λ n. length own + n) (length-replicate d.0 0)) ∙ ap length (sym d.2) ∙ length_bits bytes in
    let fill = bytes_fill own d.0 d.1 (omega arith) in
    (g, encode-some b g.0.0 ∙ sym fill ∙ ap bytes_of (sym d.2) ∙ bytes_of_bits bytes h)

block_bits_least : (b : BlockSyntax) → 8 ≤ length (fields_bits (block_fields b))
block_bits_least b = simp (length-append, length_digits) (omega arith)

trip_again : (b : BlockSyntax) → Encodable b → length (encode b) ≤ 2048 → decode (encode b) ≡ Ok b
trip_again b g l =
    let own : List ℕ = fields_bits (block_fields b) in
    let n : ℕ = 8 * ((length own + 7) / 8) - length own in
    let bits : List ℕ = own ++ replicate n 0 in
    let e = encode-some b g.0.0 in
    let holds : bits_of (encode b) ≡ bits = ap bits_of e ∙ bits_of-bytes_of own (fields_bits_bits (block_fields b)) in
    let s = laid_stands bits 0 (block_fields b) (replicate n 0) (undoes_block.fits b g) (omega arith) refl in
    let reads = undoes_block.again bits 0 b (0 + length own) g s in
    let after : drop (0 + length own) bits ≡ replicate n 0 = drop_at own (replicate n 0) (0 + length own) (omega arith) in
    let filling : fills (drop (0 + length own) bits) ≡ true = rw after (zeros_fill n (omega arith)) in
    let some : 1 ≤ length (encode b) = rw e (omega (arith, length-bytes_of own, block_bits_least b)) in
    decode-gives (encode b) bits b (0 + length own) some l holds reads filling

pub round_trip : RoundTrip
round_trip = record { back = trip_back; again = trip_again }
