-- Worked examples of the two reckonings.
use Rattle.std.specs.Prelude.{◌≡◌, pos, negsuc}
use Rattle.numbers.specs.Points.{points}
use Rattle.numbers.specs.Hundredths.{hundredths}

-- -7 by 2 is -3; -2,147,483,648 by -1 is itself; 7 by 0 is 0; 1.05 times 1.05 is 1.10; the highest count
-- and 1 more is the highest count (`negsuc n` is -(n + 1))
pub record WorkedExamples : Type 0 where
  pub fraction_dropped : points.quotient (negsuc 6) (pos 2) ≡ negsuc 2
  pub smallest_by_minus_one : points.quotient (negsuc 2147483647) (negsuc 0) ≡ negsuc 2147483647
  pub by_zero : points.quotient (pos 7) (pos 0) ≡ pos 0
  pub product : hundredths.times (pos 105) (pos 105) ≡ pos 110
  pub held_at_the_end : hundredths.plus (pos 2000000000) (pos 1) ≡ pos 2000000000
