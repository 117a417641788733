-- What wrapping, holding at the ends and dividing come to.
use Rattle.std.specs.Prelude.{◌≡◌, ◌+◌, ◌*◌, ◌%◌, ◌^◌, ◌<◌, ◌≤◌, ℤ, pos, negsuc, ◌-ℤ◌, ◌*ℤ◌, ◌≤ℤ◌, Decides, int_div, unsigned_abs}
use Rattle.std.specs.Ordering.{int_eq}
use Rattle.numbers.specs.Points.{wrap}
use Rattle.numbers.specs.Hundredths.{lowest, highest, held}

-- z is a number from low to high
abbrev pub Within : ℤ → ℤ → ℤ → Type 0
Within low high z = (low ≤ℤ z) × (z ≤ℤ high)

-- a number of 32 bits
abbrev pub Point : ℤ → Type 0
Point z = Within (negsuc 2147483647) (pos 2147483647) z

-- a number of the hundredths' range
abbrev pub Count : ℤ → Type 0
Count z = Within lowest highest z

-- a and b differ by a multiple of 2 ^ 32
abbrev pub Congruent : ℤ → ℤ → Type 0
Congruent a b = unsigned_abs (a -ℤ b) % 2 ^ 32 ≡ 0

-- wrapping gives the one number of 32 bits that is congruent; holding gives the nearest number of the
-- range; a quotient is the largest in magnitude that the dividend reaches, with the sign of the exact
-- quotient or 0, and it is 0 where the divisor is 0; a test of sameness is true of the same numbers alone
pub record NumberLaws : Type 0 where
  pub wrap_range : (z : ℤ) → Point (wrap z)
  pub wrap_congruent : (z : ℤ) → Congruent (wrap z) z
  pub wrap_only : (z y : ℤ) → Point y → Congruent y z → y ≡ wrap z
  pub held_range : (z : ℤ) → Count (held z)
  pub held_same : (z : ℤ) → Count z → held z ≡ z
  pub held_low : (z : ℤ) → z ≤ℤ lowest → held z ≡ lowest
  pub held_high : (z : ℤ) → highest ≤ℤ z → held z ≡ highest
  pub held_nearest : (z y : ℤ) → Count y → unsigned_abs (z -ℤ held z) ≤ unsigned_abs (z -ℤ y)
  pub quotient_size : (a b : ℤ) → 0 < unsigned_abs b →
      (unsigned_abs b * unsigned_abs (int_div a b) ≤ unsigned_abs a) × (unsigned_abs a < unsigned_abs b * (unsigned_abs (int_div a b) + 1))
  pub quotient_sign : (a b : ℤ) → pos 0 ≤ℤ (int_div a b *ℤ (a *ℤ b))
  pub quotient_by_zero : (a : ℤ) → int_div a (pos 0) ≡ pos 0
  pub same_decides : (a b : ℤ) → Decides (int_eq a b) (a ≡ b)
