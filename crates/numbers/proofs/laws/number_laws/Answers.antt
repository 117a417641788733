use Rattle.std.proofs.lemmas.Bool.Decides.{Decides-int_eq}
use Rattle.numbers.proofs.Wrapping.{wrap_range, wrap_congruent, wrap_only}
use Rattle.numbers.proofs.Holding.{held_range, held_same, held_low, held_high, held_nearest}
use Rattle.numbers.proofs.Quotients.{quotient_size, quotient_sign, by_zero}
use Rattle.numbers.proofs.laws.number_laws.Goals as goal

pub returns : goal.returns
returns c = record {
  wrap_range = wrap_range;
  wrap_congruent = wrap_congruent;
  wrap_only = wrap_only;
  held_range = held_range;
  held_same = held_same;
  held_low = held_low;
  held_high = held_high;
  held_nearest = held_nearest;
  quotient_size = quotient_size;
  quotient_sign = quotient_sign;
  quotient_by_zero = by_zero;
  same_decides = Decides-int_eq;
}
