-- Holding at the ends gives the nearest number of the range.
use Rattle.std.proofs.Common.{◌≡◌, ◌≤◌, ℤ, ◌-ℤ◌, nat_abs, ◌≤ℤ◌, arith}
use Rattle.std.proofs.lemmas.Int.{ints}
use Rattle.numbers.specs.Hundredths.{lowest, highest, held}
use Rattle.numbers.specs.Laws.{Count}

pub held_same : (z : ℤ) → Count z → held z ≡ z
held_same z h = grind (arith, ints)

pub held_low : (z : ℤ) → z ≤ℤ lowest → held z ≡ lowest
held_low z h = grind (arith, ints)

pub held_high : (z : ℤ) → highest ≤ℤ z → held z ≡ highest
held_high z h = grind (arith, ints)

pub held_range : (z : ℤ) → Count (held z)
held_range z = grind (arith, ints)

pub held_nearest : (z y : ℤ) → Count y → nat_abs (z -ℤ held z) ≤ nat_abs (z -ℤ y)
held_nearest z y h = grind (arith, ints)
