-- Bytes written as hexadecimal digits.
use Rattle.std.specs.Prelude.{◌≡◌, ℕ, ◌+◌, ◌-◌, ◌*◌, ◌/◌, ◌%◌, ◌<◌, cond, List, [], ◌∷◌, Some, None, Option, nat_lt}
use Rattle.std.specs.List.{AllByRecursion}

-- the value of a digit, upper or lower case, by its ASCII code
abbrev pub digit_value : ℕ → Option ℕ
digit_value c =
    cond (nat_lt c 48) None
    (cond (nat_lt c 58) (Some (c - 48))
    (cond (nat_lt c 65) None
    (cond (nat_lt c 71) (Some (c - 55))
    (cond (nat_lt c 97) None
    (cond (nat_lt c 103) (Some (c - 87)) None)))))

abbrev pub byte_of : Option ℕ → Option ℕ → Option ℕ
byte_of None low = None
byte_of (Some h) None = None
byte_of (Some h) (Some l) = Some (h * 16 + l)

-- the byte that two digits write
abbrev pub byte_of_digits : ℕ → ℕ → Option ℕ
byte_of_digits high low = byte_of (digit_value high) (digit_value low)

abbrev pub byte_then : Option ℕ → Option (List ℕ) → Option (List ℕ)
byte_then None bs = None
byte_then (Some b) None = None
byte_then (Some b) (Some bs) = Some (b ∷ bs)

-- the bytes that a text writes, two digits each
unfoldable pub unhex : List ℕ → Option (List ℕ)
unhex [] = Some []
unhex (c ∷ []) = None
unhex (c ∷ d ∷ cs) = byte_then (byte_of_digits c d) (unhex cs)

-- the upper case digit of a value below 16
abbrev pub digit_of : ℕ → ℕ
digit_of v = cond (nat_lt v 10) (48 + v) (55 + v)

-- two upper case digits for each byte
unfoldable pub hex_of : List ℕ → List ℕ
hex_of [] = []
hex_of (b ∷ bs) = digit_of (b / 16) ∷ digit_of (b % 16) ∷ hex_of bs

-- what is written reads back
abbrev pub RoundTrip : Type 0
RoundTrip = (bs : List ℕ) → AllByRecursion (λ b. b < 256) bs → unhex (hex_of bs) ≡ Some bs
