use Rattle.reading.proofs.Loading.{holds_loaded, none_read}
use Rattle.reading.proofs.table.read.Goals as goal

pub load-requires-clause-none : goal.load-requires-clause-none
load-requires-clause-none c = none_read _ c.clear.ensures.blank

pub returns-in-Ok-clause-rows : goal.returns-in-Ok-clause-rows
returns-in-Ok-clause-rows c =
    let g = c.in-Ok.ensures.gives in
    rw (← c.clear.ensures.long, g.stored.reads) (holds_loaded c.clear.new.table _ _ c.clear.ensures.blank g)
