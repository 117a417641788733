-- What a quotient comes to, and that the code's quotients are these.
use Rattle.std.proofs.Common.{◌≡◌, ℕ, zero, suc, ◌+◌, ◌*◌, ◌/◌, ◌^◌, ◌<◌, ◌≤◌, Some, None, Option, ℤ, pos, negsuc, ◌*ℤ◌, neg_ℤ, nat_abs, ◌≤ℤ◌, refl, ap, ◌∙◌, mul-le-mul_right, mul-le-mul_left, div-le_self, arith, w32, w64, SFits, to_z, of_z}
use native.Mathlib.Nat.{div-zero, mul-div-le, lt-mul-div-succ}
use Rattle.std.specs.Int.{CanDivide, int_wrap}
use Rattle.std.specs.Int.RustNames.{int_div}
use Rattle.std.specs.Option.{MatchOption, SomeIff}
use Rattle.std.proofs.lemmas.Int.{ints, to_z-of_z, unsigned_abs-mul, fits_signed_from_abs}
use Rattle.numbers.specs.Points.{wrap}
use Rattle.numbers.specs.Hundredths.{held}

pub by_zero : (a : ℤ) → int_div a (pos 0) ≡ pos 0
by_zero (pos a) = ap pos (div-zero a)
by_zero (negsuc a) = ap (λ (n : ℕ). neg_ℤ (pos n)) (div-zero (suc a))

abs_neg : (n : ℕ) → nat_abs (neg_ℤ (pos n)) ≡ n
abs_neg zero = refl
abs_neg (suc n) = refl

-- the quotient's magnitude is the quotient of the magnitudes
magnitude : (a b : ℤ) → nat_abs (int_div a b) ≡ nat_abs a / nat_abs b
magnitude (pos a) (pos b) = refl
magnitude (pos a) (negsuc b) = abs_neg (a / suc b)
magnitude (negsuc a) (pos b) = abs_neg (suc a / b)
magnitude (negsuc a) (negsuc b) = refl

pub quotient_size : (a b : ℤ) → 0 < nat_abs b → (nat_abs b * nat_abs (int_div a b) ≤ nat_abs a) × (nat_abs a < nat_abs b * (nat_abs (int_div a b) + 1))
quotient_size a b h = rw magnitude (mul-div-le (nat_abs a) (nat_abs b), lt-mul-div-succ (nat_abs a) h)

-- a product of two numbers that are both negated, or both not
not_negative : (m n : ℕ) → pos 0 ≤ℤ (pos m *ℤ pos n)
not_negative m n = omega (arith, ints)

both_negated : (m n : ℕ) → pos 0 ≤ℤ (neg_ℤ (pos m) *ℤ neg_ℤ (pos n))
both_negated zero n = omega (arith, ints)
both_negated (suc m) zero = omega (arith, ints)
both_negated (suc m) (suc n) = omega (arith, ints)

pub quotient_sign : (a b : ℤ) → pos 0 ≤ℤ (int_div a b *ℤ (a *ℤ b))
quotient_sign (pos a) (pos b) = not_negative (a / b) (a * b)
quotient_sign (pos a) (negsuc b) = both_negated (a / suc b) (a * suc b)
quotient_sign (negsuc a) (pos b) = both_negated (suc a / b) (suc a * b)
quotient_sign (negsuc a) (negsuc b) = not_negative (suc a / suc b) (suc a * suc b)

-- bits that are read again wrap at most once
read_again : (z : ℤ) → nat_abs z ≤ 2147483648 → to_z w32 (of_z w32 z) ≡ wrap z
unfolding int_wrap
read_again (pos n) h = ap (to_z w32) (omega arith)
read_again (negsuc n) h = ap (to_z w32) (omega arith)

pub wraps_quotient : (a b : ℤ) → SFits w32 a → to_z w32 (of_z w32 (int_div a b)) ≡ wrap (int_div a b)
wraps_quotient a b f =
    let small : nat_abs a ≤ 2147483648 = omega (arith, ints) in
    read_again (int_div a b) (omega (arith, magnitude a b, div-le_self (nat_abs a) (nat_abs b)))

-- what the code's checked division comes to where the quotient fits: it gives nothing for the divisor 0 alone
held_quotient : (n c : ℤ) (d : Option ℤ) (r : ℤ) → SFits w64 c → SFits w64 (int_div n c) → SomeIff d (CanDivide w64 n c) (int_div n c) → MatchOption d (r ≡ pos 0) (λ k. r ≡ held k) → r ≡ held (int_div n c)
held_quotient n c (Some k) r f g h e = e ∙ ap held h.1
held_quotient n (pos zero) None r f g h e = e ∙ rw by_zero refl
held_quotient n (pos (suc c)) None r f g h e = absurd (h (omega arith, g))
held_quotient n (negsuc c) None r f g h e = absurd (h (omega (arith, ints), g))

-- a number of 64 bits, to its bits and back
abbrev at64 : ℤ → ℤ
at64 z = to_z w64 (of_z w64 z)

-- x, y and z are a, b and c as the code widens them; at 64 bits their product does not overflow
module _ (a b c x y z : ℤ) (f : SFits w32 a) (g : SFits w32 b) (h : SFits w32 c) (p : x ≡ to_z w32 (of_z w32 a)) (q : y ≡ to_z w32 (of_z w32 b)) (s : z ≡ to_z w32 (of_z w32 c)) where
  small_product : nat_abs (a *ℤ b) ≤ 2 ^ 62
  small_product =
      let m : nat_abs a ≤ 2147483648 = omega (arith, ints) in
      let n : nat_abs b ≤ 2147483648 = omega (arith, ints) in
      omega (arith, unsigned_abs-mul a b, mul-le-mul_right (nat_abs b) m, mul-le-mul_left 2147483648 n)

  widened : at64 (at64 x *ℤ at64 y) ≡ a *ℤ b
  widened =
      let u : at64 x ≡ a = omega (arith, ints) in
      let v : at64 y ≡ b = omega (arith, ints) in
      let k : SFits w64 (a *ℤ b) = fits_signed_from_abs w64 (a *ℤ b) (omega (arith, small_product)) in
      simp (u, v, to_z-of_z)

  quotient_fits : SFits w64 (int_div (a *ℤ b) c)
  quotient_fits =
      let k = a *ℤ b in
      fits_signed_from_abs w64 (int_div k c) (omega (arith, small_product, magnitude k c, div-le_self (nat_abs k) (nat_abs c)))

  pub scaled_held : (d : Option ℤ) (r : ℤ) → SomeIff d (CanDivide w64 (at64 (at64 x *ℤ at64 y)) (at64 z)) (int_div (at64 (at64 x *ℤ at64 y)) (at64 z)) → MatchOption d (r ≡ pos 0) (λ k. r ≡ held k) → r ≡ held (int_div (a *ℤ b) c)
  scaled_held d r k e =
      let w : at64 z ≡ c = omega (arith, ints) in
      held_quotient (a *ℤ b) c d r (omega (arith, ints)) quotient_fits (rw (widened, w) at k) e
