-- The list of the bits of bytes, and the number that bits make.
use Rattle.std.proofs.Common.{◌≡◌, ℕ, zero, suc, ◌+◌, ◌-◌, ◌*◌, ◌/◌, ◌%◌, ◌^◌, ◌<◌, List, [], ◌∷◌, length, get_or, fold, sym, refl, ap, ◌∙◌, pow-suc, div-one, arith}
use native.Mathlib.Nat.{zero-div}
use Rattle.std.proofs.lemmas.List.{length_push}
use Rattle.std.proofs.lemmas.Nat.{mod_below, pow_pos, shr-shr, div-add-mod'}
use Rattle.std.proofs.lemmas.List.Sums.{fold_push}
use Rattle.bits.specs.Bits.{bits_of, number_of, digits}

-- eight bits to a byte
pub length_bits : (bytes : List ℕ) → length (bits_of bytes) ≡ 8 * length bytes
unfolding bits_of
length_bits [] = refl
length_bits (b ∷ bs) = omega (arith, length_bits bs)

-- bit i stands in byte i / 8
pub get_d_bits : (bytes : List ℕ) (i : ℕ) → get_or (bits_of bytes) i 0 ≡ get_or bytes (i / 8) 0 / 2 ^ (7 - i % 8) % 2
unfolding bits_of
get_d_bits [] i = sym (ap (λ x. x % 2) (zero-div (2 ^ (7 - i % 8))))
get_d_bits (b ∷ bs) zero = refl
get_d_bits (b ∷ bs) (suc zero) = refl
get_d_bits (b ∷ bs) (suc (suc zero)) = refl
get_d_bits (b ∷ bs) (suc (suc (suc zero))) = refl
get_d_bits (b ∷ bs) (suc (suc (suc (suc zero)))) = refl
get_d_bits (b ∷ bs) (suc (suc (suc (suc (suc zero))))) = refl
get_d_bits (b ∷ bs) (suc (suc (suc (suc (suc (suc zero)))))) = refl
get_d_bits (b ∷ bs) (suc (suc (suc (suc (suc (suc (suc zero))))))) = sym (ap (λ x. x % 2) (div-one b))
get_d_bits (b ∷ bs) (suc (suc (suc (suc (suc (suc (suc (suc i)))))))) =
    let d : suc (suc (suc (suc (suc (suc (suc (suc i))))))) / 8 ≡ suc (i / 8) = omega arith in
    let m : suc (suc (suc (suc (suc (suc (suc (suc i))))))) % 8 ≡ i % 8 = omega arith in
    rw (d, m) (get_d_bits bs i)

-- each is a bit
pub bits_of-bit : (bytes : List ℕ) (i : ℕ) → get_or (bits_of bytes) i 0 < 2
bits_of-bit bytes i = rw (get_d_bits bytes i) (mod_below (get_or bytes (i / 8) 0 / 2 ^ (7 - i % 8)) 2 (omega arith))

-- no digits
pub digits_none : (v : ℕ) → digits 0 v ≡ []
unfolding digits
digits_none v = refl

-- as many digits as asked for
pub length_digits : (w v : ℕ) → length (digits w v) ≡ w
unfolding digits
length_digits zero v = refl
length_digits (suc w) v = omega (arith, length_push (digits w (v / 2)) (v % 2), length_digits w (v / 2))

-- digits, the first one apart
pub digits_front : (w v : ℕ) → digits (suc w) v ≡ v / 2 ^ w % 2 ∷ digits w v
unfolding digits
digits_front zero v = rw (div-one v)
digits_front (suc w) v =
    let e : v / 2 / 2 ^ w ≡ v / 2 ^ suc w = shr-shr v 1 w ∙ ap (λ n. v / 2 ^ n) (omega arith) in
    rw (digits_front w (v / 2), e)

-- each digit is a bit
pub digits-bit : (w v i : ℕ) → get_or (digits w v) i 0 < 2
unfolding digits
digits-bit zero v i = omega arith
digits-bit (suc w) v zero = rw (digits_front w v) (mod_below (v / 2 ^ w) 2 (omega arith))
digits-bit (suc w) v (suc i) = rw (digits_front w v) (digits-bit w v i)

-- digit i of w
pub get_or-digits : (w v i : ℕ) → i < w → get_or (digits w v) i 0 ≡ v / 2 ^ (w - 1 - i) % 2
get_or-digits zero v i h = absurd (omega arith)
get_or-digits (suc w) v zero h =
    let e : suc w - 1 - 0 ≡ w = omega arith in
    rw (digits_front w v, e)
get_or-digits (suc w) v (suc i) h =
    let e : suc w - 1 - suc i ≡ w - 1 - i = omega arith in
    rw (digits_front w v, e) (get_or-digits w v i (omega arith))

-- the digits of a number make it again
pub number_digits : (w v : ℕ) → v < 2 ^ w → number_of (digits w v) ≡ v
unfolding digits
number_digits zero v h = omega arith
number_digits (suc w) v h =
    let l : v / 2 < 2 ^ w = omega (arith, pow-suc 2 w) in
    let e = number_digits w (v / 2) l in
    fold_push (λ (a b : ℕ). a * 2 + b) 0 (digits w (v / 2)) (v % 2) ∙ rw e (omega arith)

-- what bits are put after is above them
pub folded_above : (bits : List ℕ) (a : ℕ) → ((i : ℕ) → get_or bits i 0 < 2) → fold (λ a b. a * 2 + b) a bits / 2 ^ length bits ≡ a
folded_above [] a h = div-one a
folded_above (b ∷ bs) a h =
    let x : ℕ = fold (λ a b. a * 2 + b) (a * 2 + b) bs in
    let e : x / 2 ^ length bs ≡ a * 2 + b = folded_above bs (a * 2 + b) (λ i. h (suc i)) in
    let n : suc (length bs) ≡ length bs + 1 = omega arith in
    let low : b < 2 = h 0 in
    rw n (sym (shr-shr x (length bs) 1) ∙ rw e (omega arith))

-- w bits make a number below 2 ^ w
pub number_of-below : (bits : List ℕ) → ((i : ℕ) → get_or bits i 0 < 2) → number_of bits < 2 ^ length bits
number_of-below bits h =
    let m : ℕ = 2 ^ length bits in
    let e : number_of bits / m * m + number_of bits % m ≡ number_of bits = div-add-mod' (number_of bits) m in
    let s : 0 * m + number_of bits % m ≡ number_of bits = ap (λ q. q * m + number_of bits % m) (sym (folded_above bits 0 h)) ∙ e in
    omega (arith, mod_below (number_of bits) m (pow_pos (length bits)))

-- the digits of what bits make after any others
pub digits_folded : (bits : List ℕ) (a : ℕ) → ((i : ℕ) → get_or bits i 0 < 2) → digits (length bits) (fold (λ a b. a * 2 + b) a bits) ≡ bits
unfolding digits
digits_folded [] a h = refl
digits_folded (b ∷ bs) a h =
    let x : ℕ = fold (λ a b. a * 2 + b) (a * 2 + b) bs in
    let e : x / 2 ^ length bs ≡ a * 2 + b = folded_above bs (a * 2 + b) (λ i. h (suc i)) in
    let low : b < 2 = h 0 in
    let here : x / 2 ^ length bs % 2 ≡ b = rw e (omega arith) in
    let rest = digits_folded bs (a * 2 + b) (λ i. h (suc i)) in
    digits_front (length bs) x ∙ rw (here, rest)

-- the digits of what bits make are the bits
pub digits_number : (bits : List ℕ) → ((i : ℕ) → get_or bits i 0 < 2) → digits (length bits) (number_of bits) ≡ bits
digits_number bits h = digits_folded bits 0 h
