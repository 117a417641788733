use Rattle.std.proofs.Common.{take}
use Rattle.std.specs.List.{flat_map}
use Rattle.writing.specs.Writing.{Wrote}
use Rattle.writing.proofs.writer.BitWriter.put_all.Given as goal

abbrev pub invariant-loop-row : goal.invariant-loop-row
invariant-loop-row g l = Wrote (flat_map (g.T.Put.fields l.initial.self.cells.now) (take l.row-index l.rows)) l.initial.self l.self
