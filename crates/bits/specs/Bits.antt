-- Bytes as bits. A byte and a bit are natural numbers; a bit is 0 or 1.
use Rattle.std.specs.Prelude.{ℕ, zero, suc, ◌+◌, ◌*◌, ◌/◌, ◌%◌, ◌<◌, cond, List, [], ◌∷◌, ◌++◌, map, length, take, drop, Some, None, fold, Option, nat_le, slice_index}
use Rattle.std.specs.List.{range_with_len}

-- the eight bits of a byte, most significant first
abbrev pub byte_bits : ℕ → List ℕ
byte_bits b = b / 128 % 2 ∷ b / 64 % 2 ∷ b / 32 % 2 ∷ b / 16 % 2 ∷ b / 8 % 2 ∷ b / 4 % 2 ∷ b / 2 % 2 ∷ b % 2 ∷ []

-- the bits of bytes, one byte after another
unfoldable pub bits_of : List ℕ → List ℕ
bits_of [] = []
bits_of (b ∷ bs) = byte_bits b ++ bits_of bs

-- the number that bits make, most significant first
abbrev pub number_of : List ℕ → ℕ
number_of bits = fold (λ a b. a * 2 + b) 0 bits

-- the last w bits of a number, most significant first
unfoldable pub digits : ℕ → ℕ → List ℕ
digits zero v = []
digits (suc w) v = digits w (v / 2) ++ (v % 2 ∷ [])

-- the number in the w bits from bit `at` on, where the bits reach so far
unfoldable pub field_at : ℕ → List ℕ → ℕ → Option ℕ
field_at w bits at = cond (nat_le (at + w) (length bits)) (Some (number_of (take w (drop at bits)))) None

-- byte j of those that hold the bits; zeros stand past the last bit
abbrev pub byte_at : List ℕ → ℕ → ℕ
byte_at bits j = number_of (map (λ i. slice_index bits i) (range_with_len (8 * j) 8))

-- the bytes that hold the bits, the last one filled with zeros
unfoldable pub bytes_of : List ℕ → List ℕ
bytes_of bits = map (byte_at bits) (range_with_len 0 ((length bits + 7) / 8))

-- every element is a byte
abbrev pub Bytes : List ℕ → Type 0
Bytes xs = (j : ℕ) → slice_index xs j < 256
