use Rattle.std.proofs.Common.{◌≤◌}
use Rattle.std.specs.Iterator.{IsFinite, size}
use Rattle.std.specs.Iterator.Adapters.{peekable_can, peekable_source, peekable_peeked, items_left_with_peeked}
use Rattle.nizkaute.proofs.play_part.Given as goal

abbrev pub invariant-loop-number : goal.invariant-loop-number
invariant-loop-number g l =
    peekable_can g.L.Iterator.can_next l.lines
    × IsFinite (g.L.Iterator.remaining (peekable_source l.lines))
    × (items_left_with_peeked (peekable_peeked l.lines) (size (g.L.Iterator.remaining (peekable_source l.lines))) ≤ items_left_with_peeked (peekable_peeked l.fn.lines) (size (g.L.Iterator.remaining (peekable_source l.fn.lines))))

abbrev pub decreases-loop-number : goal.decreases-loop-number
decreases-loop-number g l = items_left_with_peeked (peekable_peeked l.lines) (size (g.L.Iterator.remaining (peekable_source l.lines)))
