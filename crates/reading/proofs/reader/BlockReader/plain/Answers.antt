use Rattle.std.proofs.Common.{refl, ap}
use Rattle.syntax.specs.Syntax.{plain}
use Rattle.syntax.specs.Decoder.{read_plain}
use Rattle.layout.specs.declared.node.Form.TheVariants.{Plain}
use Rattle.reading.proofs.Steps.{then_take, ends_into}
use Rattle.reading.proofs.reader.BlockReader.plain.Goals as goal

pub returns : goal.returns
unfolding read_plain
returns c = then_take _ _ c.in_ok-flow.ensures (ends_into _ _ (plain c.in_ok-flow.flow) c.in_ok-cells.ensures (λ from x. ap (Plain c.in_ok-flow.flow)) (λ x. refl) (λ x. refl))
