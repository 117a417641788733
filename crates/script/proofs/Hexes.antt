-- A turn of the loops that read and write digits.
use Rattle.std.proofs.Common.{◌≡◌, ℕ, ◌+◌, ◌*◌, ◌/◌, ◌%◌, ◌-◌, ◌<◌, ◌≤◌, eqb, List, [], ◌∷◌, ◌++◌, length, get_or, take, drop, Some, None, Option, sym, refl, ap, ◌∙◌, append_assoc, append-nil, arith}
use Rattle.std.proofs.lemmas.List.{take_all, take_more}
use Rattle.std.proofs.lemmas.Bool.Decides.{nat_tests}
use Rattle.std.specs.Bool.{then_some}
use Rattle.std.specs.Option.{option_map}
use Rattle.script.specs.Hex.{digit_value, byte_then, byte_of_digits, digit_of, unhex, hex_of, RoundTrip}

-- bytes that are read, before those that are left
abbrev pub ahead : List ℕ → Option (List ℕ) → Option (List ℕ)
ahead xs None = None
ahead xs (Some ys) = Some (xs ++ ys)

-- one byte more
pushed : (xs : List ℕ) (b : ℕ) (o : Option (List ℕ)) → ahead (xs ++ b ∷ []) o ≡ ahead xs (byte_then (Some b) o)
pushed xs b None = refl
pushed xs b (Some ys) = ap Some (append_assoc xs (b ∷ []) ys)

-- the first two digits, and what follows them
unhex_pair : (ds : List ℕ) → 2 ≤ length ds → unhex ds ≡ byte_then (byte_of_digits (get_or ds 0 0) (get_or ds 1 0)) (unhex (take (length ds - 2) (drop 2 ds)))
unfolding unhex
unhex_pair [] h = absurd (omega arith)
unhex_pair (c ∷ []) h = absurd (omega arith)
unhex_pair (c ∷ d ∷ cs) h = let t : take (length (c ∷ d ∷ cs) - 2) cs ≡ cs = take_all _ cs (omega arith) in rw t refl

-- a turn of the loop that reads
pub ahead_more : (xs ds : List ℕ) (b : ℕ) → 2 ≤ length ds → Some b ≡ byte_of_digits (get_or ds 0 0) (get_or ds 1 0) → ahead (xs ++ b ∷ []) (unhex (take (length ds - 2) (drop 2 ds))) ≡ ahead xs (unhex ds)
ahead_more xs ds b h e =
    pushed xs b (unhex (take (length ds - 2) (drop 2 ds))) ∙ ap (λ o. ahead xs (byte_then o (unhex (take (length ds - 2) (drop 2 ds))))) e ∙ ap (ahead xs) (sym (unhex_pair ds h))

-- where it stops at two bytes that are no digits
pub ahead_stops : (xs ds : List ℕ) → 2 ≤ length ds → None ≡ byte_of_digits (get_or ds 0 0) (get_or ds 1 0) → None ≡ ahead xs (unhex ds)
ahead_stops xs ds h e = ap (λ o. ahead xs (byte_then o (unhex (take (length ds - 2) (drop 2 ds))))) e ∙ ap (ahead xs) (sym (unhex_pair ds h))

-- where no digit is left, or one
pub ahead_ends : {V : Type 0} (f : V → List ℕ) (v : V) (ds : List ℕ) → length ds < 2 → option_map f (then_some (eqb (length ds) 0) v) ≡ ahead (f v) (unhex ds)
unfolding unhex
ahead_ends f v [] h = ap Some (sym (append-nil (f v)))
ahead_ends f v (c ∷ []) h = refl
ahead_ends f v (c ∷ d ∷ cs) h = absurd (omega arith)

-- the digits of one byte more
hex_push : (bs : List ℕ) (b : ℕ) → hex_of (bs ++ b ∷ []) ≡ (hex_of bs ++ digit_of (b / 16) ∷ []) ++ digit_of (b % 16) ∷ []
unfolding hex_of
hex_push [] b = refl
hex_push (x ∷ bs) b = ap (λ l. digit_of (x / 16) ∷ digit_of (x % 16) ∷ l) (hex_push bs b)

-- a turn of the loop that writes
pub hex_more : (bs : List ℕ) (i : ℕ) → i < length bs → hex_of (take (i + 1) bs) ≡ (hex_of (take i bs) ++ digit_of (get_or bs i 0 / 16) ∷ []) ++ digit_of (get_or bs i 0 % 16) ∷ []
hex_more bs i h = ap hex_of (take_more bs i 0 h) ∙ hex_push (take i bs) (get_or bs i 0)

-- a digit that is written reads back
digit_back : (v : ℕ) → v < 16 → digit_value (digit_of v) ≡ Some v
digit_back v h = grind (arith, nat_tests)

-- so does a byte
byte_back : (b : ℕ) → b < 256 → byte_of_digits (digit_of (b / 16)) (digit_of (b % 16)) ≡ Some b
byte_back b h =
    let high = digit_back (b / 16) (omega arith) in
    let low = digit_back (b % 16) (omega arith) in
    let whole : b / 16 * 16 + b % 16 ≡ b = omega arith in
    rw (high, low, whole)

-- so do all bytes
pub round_trip : RoundTrip
unfolding unhex hex_of
round_trip [] h = refl
round_trip (b ∷ bs) h = rw (byte_back b h.0, round_trip bs h.1)
