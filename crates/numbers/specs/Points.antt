-- Whole points: signed numbers of 32 bits that wrap.
use Rattle.std.specs.Prelude.{ℤ, ◌+ℤ◌, ◌-ℤ◌, ◌*ℤ◌, neg_ℤ, int_lt, int_div}
use Rattle.std.specs.Int.{int_wrap, w32}
use Rattle.std.specs.Ordering.{int_eq}
use Rattle.numbers.specs.Reckonings.{Reckonings}

-- the number of 32 bits that differs from z by a multiple of 2 ^ 32
abbrev pub wrap : ℤ → ℤ
wrap z = int_wrap w32 z

-- each operation wraps; `int_div` drops the fraction, toward zero, and a division by 0 is 0
abbrev pub points : Reckonings ℤ
points = record {
  take = λ z. z;
  minus = λ a. wrap (neg_ℤ a);
  plus = λ a b. wrap (a +ℤ b);
  less = λ a b. wrap (a -ℤ b);
  times = λ a b. wrap (a *ℤ b);
  quotient = λ a b. wrap (int_div a b);
  below = int_lt;
  same = int_eq;
  show = λ a. a;
}
