use Rattle.std.proofs.Common.{refl}
use Rattle.syntax.specs.Decoder.{read_equation}
use Rattle.reading.proofs.Steps.{then_take, ends_into}
use Rattle.reading.proofs.reader.equations.EquationRow.read.Goals as goal

pub returns : goal.returns
unfolding read_equation
returns c =
    let n = c.in_ok-clock.clock in
    then_take _ _ c.in_ok-kind.ensures (then_take _ _ c.in_ok-clock.ensures.takes (ends_into _ _ (λ x. record { clock = n; form = x }) c.in_ok-form.ensures (λ from x e i. record { clock = n; form = e i }) (λ x. refl) (λ x. refl)))
