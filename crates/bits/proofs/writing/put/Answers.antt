use Rattle.std.proofs.Common.{◌-◌, ◌/◌, ◌^◌}
use Rattle.bits.proofs.Bytes.{bit-truth}
use Rattle.bits.proofs.Fields.{putting_more, putting_all}
use Rattle.bits.proofs.writing.put.Goals as goal

pub loop-k-preserved : goal.loop-k-preserved
loop-k-preserved c = rw (c.put_after.ensures, bit-truth (c.args.value / 2 ^ (c.args.width - 1 - c.loop-k.k))) (putting_more c.loop-k.invariant c.loop-k-test.true)

pub returns-clause-out : goal.returns-clause-out
returns-clause-out c = putting_all c.loop-k.invariant c.loop-k-test.false
