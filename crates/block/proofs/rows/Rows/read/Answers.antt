use Rattle.std.proofs.Common.{length, sym, ap, ◌∙◌, arith}
use Rattle.syntax.specs.Encoder.{encode}
use Rattle.layout.specs.Held.{readable}
use Rattle.block.proofs.Keeping.{held_past, read_stands, read_readable, read_back}
use Rattle.block.proofs.rows.Rows.read.Goals as goal

pub invariant_of-self : goal.invariant_of-self
invariant_of-self c =
    let n = length c.args.self.now.table.store.cells.now in
    let bs = c.args.bytes.now in
    let t = c.read.new.table in
    record {
      from_read = ap readable (read_stands n bs t c.read.ensures.rows) ∙ read_readable n bs (λ j. omega (arith, c.type_inv.bytes j));
      past_blank = held_past t _ c.read.ensures.rows;
    }

pub returns : goal.returns
returns c =
    let n = length c.args.self.now.table.store.cells.now in
    let bs = c.args.bytes.now in
    let s = read_stands n bs c.read.new.table c.read.ensures.rows in
    record {
      answer = c.read.ensures.answer;
      rows = c.read.ensures.rows;
      stands = s;
      back = λ a. ap encode s ∙ read_back n bs (λ j. omega (arith, c.type_inv.bytes j)) (sym c.read.ensures.answer ∙ a);
      long = c.read.ensures.long;
    }
