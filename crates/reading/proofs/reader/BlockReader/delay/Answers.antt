use Rattle.std.proofs.Common.{refl, ap}
use Rattle.syntax.specs.Syntax.{delay}
use Rattle.syntax.specs.Decoder.{read_delay}
use Rattle.layout.specs.declared.node.Form.TheVariants.{Delay}
use Rattle.reading.proofs.Steps.{then_take, ends_into}
use Rattle.reading.proofs.reader.BlockReader.delay.Goals as goal

pub returns : goal.returns
unfolding read_delay
returns c =
    let f = c.in_ok-flow.flow in
    let v = c.in_ok-first.first in
    then_take _ _ c.in_ok-flow.ensures (then_take _ _ c.in_ok-first.ensures (ends_into _ _ (delay f v) c.in_ok-cells.ensures (λ from x. ap (Delay f v)) (λ x. refl) (λ x. refl)))
