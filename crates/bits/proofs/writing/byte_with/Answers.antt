use Rattle.std.proofs.Common.{◌<◌, arith}
use Rattle.std.proofs.lemmas.Nat.{one_shl}
use Rattle.bits.proofs.Bytes.{truth-below, with_bit_fits}
use Rattle.bits.proofs.writing.byte_with.Goals as goal

pub overflow_mul-result-2 : goal.overflow_mul-result-2
overflow_mul-result-2 c =
    let low : c.from.result < 2 = rw c.from.ensures (truth-below c.args.b) in
    rw (one_shl c.args.s 8 c.requires) (omega (arith, with_bit_fits c.args.x c.args.s c.from.result (omega arith) c.requires low))

pub overflow_add-result-2 : goal.overflow_add-result-2
overflow_add-result-2 c =
    let low : c.from.result < 2 = rw c.from.ensures (truth-below c.args.b) in
    rw (one_shl c.args.s 8 c.requires) (omega (arith, with_bit_fits c.args.x c.args.s c.from.result (omega arith) c.requires low))
