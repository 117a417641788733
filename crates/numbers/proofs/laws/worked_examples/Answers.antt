use Rattle.std.proofs.Common.{refl}
use Rattle.std.specs.Int.{int_wrap}
use Rattle.numbers.proofs.laws.worked_examples.Goals as goal

pub returns : goal.returns
unfolding int_wrap
returns c = record {
  fraction_dropped = refl;
  smallest_by_minus_one = refl;
  by_zero = refl;
  product = refl;
  held_at_the_end = refl;
}
