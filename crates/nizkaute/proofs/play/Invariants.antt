use Rattle.std.proofs.Common.{◌-◌, length}
use Rattle.std.specs.Iterator.{at_most, size, count_min}
use Rattle.std.specs.Iterator.Adapters.{items_left_with_peeked}
use Rattle.std.specs.Range.{range_inclusive_left}
use Rattle.std.specs.Str.Iter.{lines_rest}
use Rattle.nizkaute.proofs.play.Given as goal

abbrev pub decreases-loop-next : goal.decreases-loop-next
decreases-loop-next l = items_left_with_peeked l.lines.peeked (size (count_min (at_most (range_inclusive_left (λ a b. b - a) l.lines.iter.a)) (at_most (length (lines_rest l.lines.iter.b)))))
