-- Hundredths: whole counts of hundredths, held at the ends of their range.
use Rattle.std.specs.Prelude.{ℤ, pos, ◌+ℤ◌, ◌-ℤ◌, ◌*ℤ◌, neg_ℤ, int_lt, int_div}
use Rattle.std.specs.Int.{int_max, int_min}
use Rattle.std.specs.Ordering.{int_eq}
use Rattle.numbers.specs.Reckonings.{Reckonings}

-- the ends of the range
abbrev pub highest : ℤ
highest = pos 2000000000

abbrev pub lowest : ℤ
lowest = neg_ℤ highest

-- the number of the range that is nearest to z
abbrev pub held : ℤ → ℤ
held z = int_max lowest (int_min z highest)

-- each operation is held at the ends; a product of two counts of hundredths is a hundred times too large,
-- and their quotient a hundred times too small; `int_div` drops the fraction, toward zero, and is 0 where the
-- divisor is 0
abbrev pub hundredths : Reckonings ℤ
hundredths = record {
  take = held;
  minus = λ a. held (neg_ℤ a);
  plus = λ a b. held (a +ℤ b);
  less = λ a b. held (a -ℤ b);
  times = λ a b. held (int_div (a *ℤ b) (pos 100));
  quotient = λ a b. held (int_div (pos 100 *ℤ a) b);
  below = int_lt;
  same = int_eq;
  show = λ a. a;
}
