use Rattle.std.proofs.Common.{◌≡◌, ◌+◌, ◌-◌, sym, ap, arith}
use Rattle.syntax.specs.Decoder.{read_cell, read_expression}
use Rattle.reading.proofs.Gathering.{many-counts}
use Rattle.reading.proofs.Steps.{then_take}
use Rattle.reading.proofs.reader.rows.SpanRow.read.Goals as goal

pub returns : goal.returns
unfolding read_expression
returns c =
    let a = c.in_ok-len.ensures.takes in
    let b = c.in_ok-cells.ensures in
    let f = b.gives in
    let n = many-counts read_cell _ _ _ f.item _ f.reads in
    let same : c.in_ok-len.len - 1 + 1 ≡ c.in_ok-len.len = omega (arith, c.in_ok-len.ensures.least) in
    then_take _ _ a (rw same record {
      moved = b.moved;
      gives = record {
        item = f.item;
        reads = f.reads;
        is = λ i. record { from = ap (λ s. s.now.used) (sym a.store) i; len = sym n i };
        held = f.held;
        fills = f.fills;
      };
    })
