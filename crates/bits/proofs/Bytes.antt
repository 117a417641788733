-- A byte with one of its bits replaced: which bits it has.
use Rattle.std.proofs.Common.{◌≡◌, ◌==◌, ℕ, zero, suc, Bool, true, false, ◌+◌, ◌-◌, ◌*◌, ◌/◌, ◌%◌, ◌^◌, ◌<◌, ◌≤◌, sym, refl, ap, ◌∙◌, ⊎_elim, arith}
use Rattle.std.proofs.lemmas.Nat.{mod_below, pow_pos, div-mul-add, mod-mul-add, shr-shr, field_of, mod-pow-add, shr_below, mul-add-lt, pow-add}
use Rattle.std.proofs.lemmas.Bool.{cases_lt}
use Rattle.std.specs.Int.{from_bool}
use Rattle.bits.specs.Overwriting.{with_bit}

-- a truth is a bit
pub truth-below : (b : Bool) → from_bool b < 2
truth-below false = omega arith
truth-below true = omega arith

bit-is : (n : ℕ) → n < 2 → from_bool (n == 1) ≡ n
bit-is zero h = refl
bit-is (suc zero) h = refl
bit-is (suc (suc n)) h = absurd (omega arith)

-- and a bit is a truth: whether it is 1
pub bit-truth : (n : ℕ) → from_bool (n % 2 == 1) ≡ n % 2
bit-truth n = bit-is (n % 2) (mod_below n 2 (omega arith))

-- the byte from the bit on
pub with_bit_shr : (x s b : ℕ) → with_bit x s b / 2 ^ s ≡ x / 2 ^ s / 2 * 2 + b
with_bit_shr x s b = div-mul-add (x / 2 ^ s / 2 * 2 + b) (2 ^ s) (x % 2 ^ s) (mod_below x (2 ^ s) (pow_pos s))

-- the bit that is replaced
pub with_bit_here : (x s b : ℕ) → b < 2 → with_bit x s b / 2 ^ s % 2 ≡ b
with_bit_here x s b h = rw (with_bit_shr x s b) (omega arith)

-- the bits above it
pub with_bit_above : (x s b d : ℕ) → b < 2 → with_bit x s b / 2 ^ (s + (1 + d)) ≡ x / 2 ^ (s + (1 + d))
with_bit_above x s b d h =
    let e : with_bit x s b / 2 ^ s / 2 ≡ x / 2 ^ s / 2 = rw (with_bit_shr x s b) (omega arith) in
    sym (shr-shr (with_bit x s b) s (1 + d)) ∙ sym (shr-shr (with_bit x s b / 2 ^ s) 1 d) ∙ ap (λ y. y / 2 ^ d) e ∙ shr-shr (x / 2 ^ s) 1 d ∙ shr-shr x s (1 + d)

-- a bit is one of what the number leaves at a higher power
pub low_bit : (n t j : ℕ) → n / 2 ^ t % 2 ≡ n % 2 ^ (j + 1 + t) / 2 ^ t % 2
low_bit n t j = rw (field_of n (j + 1) t, mod-pow-add (n / 2 ^ t) j 1) (omega arith)

-- the bits below it
pub with_bit-below : (x b t j : ℕ) → with_bit x (j + 1 + t) b / 2 ^ t % 2 ≡ x / 2 ^ t % 2
with_bit-below x b t j =
    let m = mod-mul-add (x / 2 ^ (j + 1 + t) / 2 * 2 + b) (2 ^ (j + 1 + t)) (x % 2 ^ (j + 1 + t)) (mod_below x (2 ^ (j + 1 + t)) (pow_pos (j + 1 + t))) in
    low_bit (with_bit x (j + 1 + t) b) t j ∙ ap (λ y. y / 2 ^ t % 2) m ∙ sym (low_bit x t j)

-- every other bit
pub with_bit_other : (x s b t : ℕ) → b < 2 → (t ≡ s → ⊥) → with_bit x s b / 2 ^ t % 2 ≡ x / 2 ^ t % 2
with_bit_other x s b t h n =
    ⊎_elim
    (λ (l : t < s).
    let e : s ≡ (s - (t + 1)) + 1 + t = omega arith in
    rw e (with_bit-below x b t (s - (t + 1))))
    (λ (l : s ≤ t).
    let e : t ≡ s + (1 + (t - (s + 1))) = omega (arith, n) in
    rw e (ap (λ y. y % 2) (with_bit_above x s b (t - (s + 1)) h)))
    (cases_lt t s)

-- it is a byte again
pub with_bit_fits : (x s b : ℕ) → x < 256 → s < 8 → b < 2 → with_bit x s b < 256
with_bit_fits x s b h l k =
    let z : 8 - s + s ≡ 8 = omega arith in
    let w : 256 ≡ 2 ^ (8 - s) * 2 ^ s = ap (λ n. 2 ^ n) (sym z) ∙ pow-add 2 (8 - s) s in
    let y : 8 - s ≡ 7 - s + 1 = omega arith in
    let d : 2 ^ (8 - s) ≡ 2 ^ (7 - s) * 2 = ap (λ n. 2 ^ n) y ∙ pow-add 2 (7 - s) 1 in
    let i : x < 2 ^ (8 - s + s) = rw z h in
    let q = shr_below x (8 - s) s i in
    let r : x / 2 ^ s / 2 * 2 + b < 2 ^ (8 - s) = omega arith in
    omega (arith, mul-add-lt (x / 2 ^ s / 2 * 2 + b) (2 ^ s) (x % 2 ^ s) (2 ^ (8 - s)) r (mod_below x (2 ^ s) (pow_pos s)))
