use Rattle.writing.proofs.Puts.{room_next, wrote_next}
use Rattle.writing.proofs.writer.BitWriter.put_all.Goals as goal

pub put-requires : goal.put-requires
put-requires g c = room_next g.T.Put.fields c.args.rows.now _ _ c.loop-row-test.true c.row-item.is _ _ c.loop-row.invariant c.requires

pub loop-row-preserved : goal.loop-row-preserved
loop-row-preserved g c = wrote_next g.T.Put.fields c.args.rows.now _ _ c.loop-row-test.true c.row-item.is _ _ c.loop-row.invariant _ c.put.ensures
