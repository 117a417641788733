use Rattle.std.proofs.Common.{◌≤◌, length, sym, ap, ◌∙◌, rules, arith}
use Rattle.std.proofs.lemmas.Bool.{eqb-false}
use Rattle.bits.specs.Bits.{bits_of}
use Rattle.reading.specs.Storing.{ended}
use Rattle.reading.proofs.Loading.{reads_all, block_to}
use Rattle.reading.proofs.table.load.Goals as goal

pub returns-clause-gives : goal.returns-clause-gives
returns-clause-gives c =
    let bytes = c.args.bytes.now in
    let b = c.in_ok-nodes.ensures.reads in
    let least : 1 ≤ length bytes = omega (arith, eqb-false (length bytes) 0 (sym c.if-is_empty.ensures)) in
    let end = ap (λ bs. ended (bits_of bs) c.nodes.new.self.at) (sym b.moved.bytes) ∙ sym c.in_ok-filling.ensures.ended in
    block_to _ c.nodes.new.self _ (search rules) (λ x e. reads_all _ bytes c.if-store-lt-MOST_CELLS.false least c.if-bytes-gt-MOST_BYTES.false x _ e end) b.gives
