use Rattle.std.proofs.Common.{refl, rules}
use Rattle.layout.specs.Held.{block_in}
use Rattle.reading.proofs.Loading.{holds_none}
use Rattle.block.proofs.rows.Rows.new.Goals as goal

pub invariant_of-result : goal.invariant_of-result
unfolding block_in
invariant_of-result c = record {
  from_read = rw c.new.ensures;
  past_blank = λ i h. rw (c.blank_all.ensures i);
}

pub returns : goal.returns
unfolding block_in
returns c = record {
  blank = holds_none _ c.new.ensures refl c.blank_all.ensures;
  stands = rw c.new.ensures;
  long = search rules;
}
