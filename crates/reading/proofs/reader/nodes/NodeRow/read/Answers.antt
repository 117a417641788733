use Rattle.std.proofs.Common.{◌≡◌, ◌+◌, ◌-◌, refl, arith}
use Rattle.syntax.specs.Decoder.{read_node}
use Rattle.reading.proofs.Steps.{then_take, then_rows, ends_into}
use Rattle.reading.proofs.reader.nodes.NodeRow.read.Goals as goal

pub returns : goal.returns
unfolding read_node
returns c =
    let i = c.in_ok-inputs.inputs in
    let o = c.in_ok-outputs.outputs in
    let same_i : i - 1 + 1 ≡ i = omega (arith, c.in_ok-inputs.ensures.least) in
    let same_o : o - 1 + 1 ≡ o = omega (arith, c.in_ok-outputs.ensures.least) in
    let l = c.in_ok-locals.locals in
    let fs = c.in_ok-flows.flows in
    let ds = c.in_ok-clocks-2.clocks in
    then_take _ _ c.in_ok-inputs.ensures.takes (then_take _ _ c.in_ok-outputs.ensures.takes (rw (same_i, same_o) (then_take _ _ c.in_ok-locals.ensures.takes (then_take _ _ c.in_ok-clocks.ensures.takes (then_rows _ _ c.in_ok-flows.ensures (then_rows _ _ c.in_ok-clocks-2.ensures (ends_into _ _ (λ es. record { inputs = i; outputs = o; locals = l; flows = fs.items; clocks = ds.items; equations = es }) c.in_ok-equations.ensures (λ from es e j. record { inputs = i; outputs = o; locals = l; flows = fs; clocks = ds; equations = e j }) (λ es. refl) (λ es. refl))))))))
