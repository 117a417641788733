use Rattle.std.proofs.Common.{refl, ap}
use Rattle.syntax.specs.Syntax.{call}
use Rattle.syntax.specs.Decoder.{read_results, read_arguments, read_call}
use Rattle.layout.specs.declared.node.Form.TheVariants.{Call}
use Rattle.reading.proofs.Steps.{then_take, then_rows, ends_into}
use Rattle.reading.proofs.reader.BlockReader.call.Goals as goal

pub returns : goal.returns
unfolding read_call read_results read_arguments
returns c =
    let n = c.in_ok-node.node in
    let rs = c.in_ok-results.results in
    then_take _ _ c.in_ok-node.ensures.takes (then_rows _ _ c.in_ok-results.ensures (ends_into _ _ (call n rs.items) c.in_ok-arguments.ensures (λ from x. ap (Call n rs)) (λ x. refl) (λ x. refl)))
