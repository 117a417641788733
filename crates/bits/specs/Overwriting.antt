-- Bytes with some of their bits replaced.
use Rattle.std.specs.Prelude.{◌≡◌, ℕ, ◌+◌, ◌-◌, ◌*◌, ◌/◌, ◌%◌, ◌^◌, ◌<◌, ◌≤◌, List, [], ◌∷◌, length, slice_index, slice_set}
use Rattle.bits.specs.Bits.{bits_of}

-- xs with ys in the place of what stood from i on; what passes the end is dropped
unfoldable pub written : {A : Type 0} → List A → ℕ → List A → List A
written xs i [] = xs
written xs i (y ∷ ys) = written (slice_set xs i y) (i + 1) ys

-- the byte x with its bit of worth 2 ^ s replaced by b
abbrev pub with_bit : ℕ → ℕ → ℕ → ℕ
with_bit x s b = (x / 2 ^ s / 2 * 2 + b) * 2 ^ s + x % 2 ^ s

-- the bytes with their bit i replaced by b
abbrev pub set_bit : List ℕ → ℕ → ℕ → List ℕ
set_bit bytes i b = slice_set bytes (i / 8) (with_bit (slice_index bytes (i / 8)) (7 - i % 8) b)

-- the bytes with their bits from i on replaced by these
unfoldable pub set_bits : List ℕ → ℕ → List ℕ → List ℕ
set_bits bytes i [] = bytes
set_bits bytes i (b ∷ bs) = set_bits (set_bit bytes i b) (i + 1) bs

-- replacing bits in bytes is overwriting a part of their list of bits
abbrev pub BitsOverwritten : Type 0
BitsOverwritten = (bytes bs : List ℕ) (at : ℕ) → at + length bs ≤ 8 * length bytes → ((i : ℕ) → slice_index bs i < 2)
    → bits_of (set_bits bytes at bs) ≡ written (bits_of bytes) at bs
