use Rattle.std.proofs.Common.{sym}
use Rattle.reading.proofs.Endings.{ended_fine, ended_set, ended_long, ended_never}
use Rattle.reading.proofs.reader.BlockReader.filling.Goals as goal
use Rattle.reading.proofs.reader.BlockReader.filling.Goals.{else-rest-lt8-via-then-rest-lt8+in_ok-take+else-branch-eq0, else-rest-lt8-via-else-rest-lt8}

pub returns-in_err-take-clause-ended : goal.returns-in_err-take-clause-ended
returns-in_err-take-clause-ended c =
    let s = c.args.self.now in
    absurd (ended_never s.bytes.now s.at s.within _ c.in_err-take.ensures.takes.gives)

pub returns-then-branch-eq0-clause-ended : goal.returns-then-branch-eq0-clause-ended
returns-then-branch-eq0-clause-ended c =
    let s = c.args.self.now in
    sym (ended_fine s.bytes.now s.at s.within _ _ c.if-rest-lt8.true c.in_ok-take.ensures.takes.gives c.if-branch-eq0.true)

pub returns-else-rest-lt8-clause-ended : goal.returns-else-rest-lt8-clause-ended
returns-else-rest-lt8-clause-ended c =
    let s = c.args.self.now in
    elim c.else-rest-lt8.branch [
      | else-rest-lt8-via-then-rest-lt8+in_ok-take+else-branch-eq0 w ↦ sym (ended_set s.bytes.now s.at s.within _ _ w.if-rest-lt8.true w.in_ok-take.ensures.takes.gives w.if-branch-eq0.false)
      | else-rest-lt8-via-else-rest-lt8 w ↦ sym (ended_long s.bytes.now s.at s.within w.if-rest-lt8.false)
    ]
