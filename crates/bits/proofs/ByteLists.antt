-- The bytes that hold bits.
use Rattle.std.proofs.Common.{◌≡◌, ℕ, zero, suc, ◌+◌, ◌-◌, ◌*◌, ◌/◌, ◌%◌, ◌^◌, ◌<◌, ◌≤◌, List, [], ◌∷◌, ◌++◌, map, length, get_or, replicate, sym, refl, ap, ◌∙◌, ⊎_elim, arith, length-append}
use native.Mathlib.Nat.{zero-div}
use lib.ListN.{length-replicate}
use Rattle.std.proofs.lemmas.List.{append_assoc, ext_get_or, get_or_past}
use Rattle.std.proofs.lemmas.List.FromFn.{length-map-range_with_len, get_or-map-range_with_len}
use Rattle.std.specs.List.{range_with_len}
use Rattle.std.proofs.lemmas.Bool.{cases_lt}
use Rattle.bits.specs.Bits.{bits_of, number_of, digits, byte_at, bytes_of, Bytes}
use Rattle.bits.specs.Overwriting.{set_bits, written}
use Rattle.bits.proofs.Lists.{map_same, read_replicated}
use Rattle.bits.proofs.Written.{written_at, written_after}
use Rattle.bits.proofs.BitLists.{length_bits, get_d_bits, length_digits, get_or-digits, number_digits, digits_number}
use Rattle.bits.proofs.SetBits.{bytes_set_bits, bits_overwritten, set_bits_left}
pub use Rattle.bits.proofs.SetBits.{length-set_bits, set_bits-append}

-- as many bytes as the bits need
pub length-bytes_of : (bits : List ℕ) → length (bytes_of bits) ≡ (length bits + 7) / 8
unfolding bytes_of
length-bytes_of bits = length-map-range_with_len (byte_at bits) 0 ((length bits + 7) / 8)

-- byte j of those that hold the bits
pub get_or-bytes_of : (bits : List ℕ) (j : ℕ) → j < (length bits + 7) / 8 → get_or (bytes_of bits) j 0 ≡ byte_at bits j
unfolding bytes_of
get_or-bytes_of bits j h =
    let e : 0 + j ≡ j = omega arith in
    get_or-map-range_with_len (byte_at bits) 0 ((length bits + 7) / 8) j j 0 h e

-- bytes by the bits they hold
pub byte_at_same : (a b : List ℕ) (j : ℕ) → ((i : ℕ) → get_or a i 0 ≡ get_or b i 0) → byte_at a j ≡ byte_at b j
byte_at_same a b j h = ap number_of (map_same (λ i. get_or a i 0) (λ i. get_or b i 0) (8 * j) 8 (λ i _. h i))

-- past the last bit
pub byte_at_past : (bits : List ℕ) (j : ℕ) → length bits ≤ 8 * j → byte_at bits j ≡ 0
byte_at_past bits j h = ap number_of (map_same (λ i. get_or bits i 0) (λ i. 0) (8 * j) 8 (λ i l. get_or_past bits i 0 (omega arith)))

-- every byte of those that hold the bits, and zero past them
pub get_or-bytes : (bits : List ℕ) (j : ℕ) → get_or (bytes_of bits) j 0 ≡ byte_at bits j
get_or-bytes bits j =
    ⊎_elim
    (λ (u : j < (length bits + 7) / 8). get_or-bytes_of bits j u)
    (λ (u : (length bits + 7) / 8 ≤ j). get_or_past (bytes_of bits) j 0 (omega (arith, length-bytes_of bits)) ∙ sym (byte_at_past bits j (omega arith)))
    (cases_lt j ((length bits + 7) / 8))

-- the bits of a byte of those that hold the bits
pub digits-byte_at : (bits : List ℕ) (j : ℕ) → ((i : ℕ) → get_or bits i 0 < 2) → digits 8 (byte_at bits j) ≡ map (λ i. get_or bits i 0) (range_with_len (8 * j) 8)
digits-byte_at bits j h =
    let part = map (λ i. get_or bits i 0) (range_with_len (8 * j) 8) in
    let n : length part ≡ 8 = length-map-range_with_len (λ i. get_or bits i 0) (8 * j) 8 in
    let low : (i : ℕ) → get_or part i 0 < 2 = λ i.
    ⊎_elim
    (λ (u : i < 8). rw (get_or-map-range_with_len (λ i. get_or bits i 0) (8 * j) 8 i (8 * j + i) 0 u refl) (h (8 * j + i)))
    (λ (u : 8 ≤ i). rw (get_or_past part i 0 (omega arith)) (omega arith))
    (cases_lt i 8) in
    rw n at (digits_number part low)

-- zeros after a list read as its end does
pub get_or-zeros : (xs : List ℕ) (n i : ℕ) → get_or (xs ++ replicate n 0) i 0 ≡ get_or xs i 0
get_or-zeros [] n i = read_replicated 0 n i
get_or-zeros (x ∷ xs) n zero = refl
get_or-zeros (x ∷ xs) n (suc i) = get_or-zeros xs n i

-- a byte by its bits
pub byte_of_bits : (bytes : List ℕ) (j : ℕ) → map (λ i. get_or (bits_of bytes) i 0) (range_with_len (8 * j) 8) ≡ digits 8 (get_or bytes j 0)
byte_of_bits bytes j =
    let f : ℕ → ℕ = λ i. get_or (bits_of bytes) i 0 in
    let n : length (map f (range_with_len (8 * j) 8)) ≡ 8 = length-map-range_with_len f (8 * j) 8 in
    ext_get_or 0 (map f (range_with_len (8 * j) 8)) (digits 8 (get_or bytes j 0)) (n ∙ sym (length_digits 8 (get_or bytes j 0))) (λ i l.
    let u : i < 8 = omega arith in
    let d : (8 * j + i) / 8 ≡ j = omega arith in
    let m : 7 - (8 * j + i) % 8 ≡ 8 - 1 - i = omega arith in
    get_or-map-range_with_len f (8 * j) 8 i (8 * j + i) 0 u refl ∙ get_d_bits bytes (8 * j + i) ∙ rw (d, m) (sym (get_or-digits 8 (get_or bytes j 0) i u)))

-- a byte is the number of its bits
pub byte_at_bits : (bytes : List ℕ) (j : ℕ) → get_or bytes j 0 < 256 → byte_at (bits_of bytes) j ≡ get_or bytes j 0
byte_at_bits bytes j h = ap number_of (byte_of_bits bytes j) ∙ number_digits 8 (get_or bytes j 0) h

-- bytes hold their own bits
pub bytes_of_bits : (bytes : List ℕ) → Bytes bytes → bytes_of (bits_of bytes) ≡ bytes
bytes_of_bits bytes h =
    let n : (length (bits_of bytes) + 7) / 8 ≡ length bytes = omega (arith, length_bits bytes) in
    ext_get_or 0 (bytes_of (bits_of bytes)) bytes (length-bytes_of (bits_of bytes) ∙ n) (λ j _.
    get_or-bytes (bits_of bytes) j ∙ byte_at_bits bytes j (h j))

-- zeros that fill the last byte make no other bytes
pub bytes_fill : (bits : List ℕ) (n : ℕ) → n < 8 → ((length bits + n) % 8 ≡ 0) → bytes_of (bits ++ replicate n 0) ≡ bytes_of bits
bytes_fill bits n l m =
    let filled = bits ++ replicate n 0 in
    let k : length filled ≡ length bits + n = simp (length-append, length-replicate) in
    let e : (length filled + 7) / 8 ≡ (length bits + 7) / 8 = omega arith in
    ext_get_or 0 (bytes_of filled) (bytes_of bits) (length-bytes_of filled ∙ e ∙ sym (length-bytes_of bits)) (λ j _.
    get_or-bytes filled j ∙ byte_at_same filled bits j (get_or-zeros bits n) ∙ sym (get_or-bytes bits j))

-- the bits of the bytes that hold bits are these, and zeros up to a whole byte
pub bits_of-bytes_of : (bits : List ℕ) → ((i : ℕ) → get_or bits i 0 < 2) → bits_of (bytes_of bits) ≡ bits ++ replicate (8 * ((length bits + 7) / 8) - length bits) 0
bits_of-bytes_of bits h =
    let n : ℕ = 8 * ((length bits + 7) / 8) - length bits in
    let k : length (bits ++ replicate n 0) ≡ length bits + n = simp (length-append, length-replicate) in
    let m = length_bits (bytes_of bits) in
    let o = length-bytes_of bits in
    ext_get_or 0 (bits_of (bytes_of bits)) (bits ++ replicate n 0) (omega arith) (λ i l.
    let u : i % 8 < 8 = omega arith in
    let t : 7 - i % 8 ≡ 8 - 1 - i % 8 = omega arith in
    let p : 8 * (i / 8) + i % 8 ≡ i = omega arith in
    get_d_bits (bytes_of bits) i
    ∙ rw (get_or-bytes bits (i / 8), t) (sym (get_or-digits 8 (byte_at bits (i / 8)) (i % 8) u))
    ∙ ap (λ xs. get_or xs (i % 8) 0) (digits-byte_at bits (i / 8) h)
    ∙ get_or-map-range_with_len (λ i. get_or bits i 0) (8 * (i / 8)) 8 (i % 8) i 0 u p
    ∙ sym (get_or-zeros bits n i))

-- bits of zeros are zeros
pub bits_of_zeros : (n i : ℕ) → get_or (bits_of (replicate n 0)) i 0 ≡ 0
bits_of_zeros n i = get_d_bits (replicate n 0) i ∙ rw (get_or-zeros [] n (i / 8), zero-div (2 ^ (7 - i % 8)))

module _ (n : ℕ) (bs : List ℕ) (h : length bs ≤ 8 * n) (low : (i : ℕ) → get_or bs i 0 < 2) where
  -- bits put over zeros stand alone
  pub bits_over_zeros : (i : ℕ) → get_or (bits_of (set_bits (replicate n 0) 0 bs)) i 0 ≡ get_or bs i 0
  bits_over_zeros i =
      let zeros : List ℕ = replicate n 0 in
      let k : length zeros ≡ n = length-replicate n 0 in
      let m = length_bits zeros in
      let e = bits_overwritten zeros bs 0 (omega arith) low in
      let z : 0 + i ≡ i = omega arith in
      rw e
      (⊎_elim
      (λ (u : i < length bs). ap (λ k. get_or (written (bits_of zeros) 0 bs) k 0) (sym z) ∙ written_at (bits_of zeros) 0 bs i 0 u (omega arith))
      (λ (u : length bs ≤ i). written_after (bits_of zeros) 0 bs i 0 (omega arith) ∙ bits_of_zeros n i ∙ sym (get_or_past bs i 0 u))
      (cases_lt i (length bs)))

  -- bits put over zeros are the bytes that hold them, and zeros
  pub set_bits_over_zeros : set_bits (replicate n 0) 0 bs ≡ bytes_of bs ++ replicate (n - length (bytes_of bs)) 0
  set_bits_over_zeros =
      let zeros : List ℕ = replicate n 0 in
      let put : List ℕ = set_bits zeros 0 bs in
      let left : ℕ = n - length (bytes_of bs) in
      let k : length zeros ≡ n = length-replicate n 0 in
      let l : length put ≡ n = length-set_bits zeros 0 bs ∙ k in
      let o = length-bytes_of bs in
      let m : length (bytes_of bs ++ replicate left 0) ≡ length (bytes_of bs) + left = simp (length-append, length-replicate) in
      let zero_bytes : Bytes zeros = λ j. rw (get_or-zeros [] n j) (omega arith) in
      let fits : Bytes put = bytes_set_bits zeros 0 bs zero_bytes low (omega arith) in
      ext_get_or 0 put (bytes_of bs ++ replicate left 0) (omega arith) (λ j _.
      sym (byte_at_bits put j (fits j)) ∙ byte_at_same (bits_of put) bs j bits_over_zeros ∙ sym (get_or-bytes bs j) ∙ sym (get_or-zeros (bytes_of bs) left j))

-- bits put over zeros are the bytes that hold them, and the zeros after
pub set_bits_zeros : (n : ℕ) (bs rest : List ℕ) → length bs ≤ 8 * n → ((i : ℕ) → get_or bs i 0 < 2) → set_bits (replicate n 0 ++ rest) 0 bs ≡ bytes_of bs ++ (replicate (n - length (bytes_of bs)) 0 ++ rest)
set_bits_zeros n bs rest h low =
    let zeros : List ℕ = replicate n 0 in
    let k : length zeros ≡ n = length-replicate n 0 in
    set_bits_left zeros rest 0 bs (omega arith) ∙ ap (λ xs. xs ++ rest) (set_bits_over_zeros n bs h low) ∙ append_assoc (bytes_of bs) (replicate (n - length (bytes_of bs)) 0) rest
