use Rattle.std.proofs.Common.{◌≡◌, ◌+◌, arith}
use Rattle.bits.proofs.BitLists.{get_d_bits}
use Rattle.bits.proofs.Fields.{field-whole, number_more, number_part_below}
use Rattle.bits.proofs.reading.number_at.Goals as goal

pub overflow_mul-value : goal.overflow_mul-value
overflow_mul-value c = omega (arith, number_part_below c.args.bytes.now c.args.at c.loop-k.k 31 (omega arith))

pub overflow_add-value : goal.overflow_add-value
overflow_add-value c = omega (arith, number_part_below c.args.bytes.now c.args.at c.loop-k.k 31 (omega arith))

pub loop-k-preserved : goal.loop-k-preserved
loop-k-preserved c =
    let m = number_more c.args.bytes.now c.args.at c.loop-k.k (omega arith) in
    let b = get_d_bits c.args.bytes.now (c.args.at + c.loop-k.k) in
    cc

pub returns : goal.returns
returns c =
    let e : c.loop-k.k ≡ c.args.width = omega arith in
    rw (field-whole c.args.width c.args.bytes.now c.args.at c.requires.inside) (cc)
