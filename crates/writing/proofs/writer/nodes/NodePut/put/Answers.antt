use Rattle.std.proofs.Common.{◌≡◌, ◌+◌, ◌++◌, ◌∷◌, map, length, take, ap, ◌∙◌, arith}
use Rattle.std.specs.List.{flat_map}
use Rattle.syntax.specs.Encoder.{flow_fields, clock_fields, equation_fields}
use Rattle.layout.specs.Layout.{equation_in}
use Rattle.writing.specs.Writing.{size}
use Rattle.writing.proofs.Puts.{size_append}
use Rattle.writing.proofs.writer.nodes.NodePut.put.Goals as goal

pub put_all-requires-2 : goal.put_all-requires-2
put_all-requires-2 c =
    let n = c.args.self.now in
    let cells = c.args.writer.now.cells.now in
    let flows = flat_map flow_fields (take (n.inputs + n.outputs + n.locals) n.flows.items) in
    let clocks = flat_map clock_fields n.clocks.items in
    let equations = (5, length (map (equation_in cells) n.equations.items)) ∷ flat_map equation_fields (map (equation_in cells) n.equations.items) in
    let at : c.put_all.new.self.at ≡ c.put_counts.new.self.at + size flows = c.put_all.ensures.place ∙ ap (λ xs. c.put_counts.new.self.at + size (flat_map flow_fields xs)) (c.front.ensures ∙ (λ i. take (c.flow_count.ensures i) (c.deref.ensures.0 i))) in
    let rows = ap (λ xs. size (flat_map clock_fields xs)) c.deref-2.ensures.0 in
    record { bits = omega (arith, c.requires.bits, at, rows, c.put_counts.ensures.place, size_append flows (clocks ++ equations), size_append clocks equations) }

pub put_equations-requires-clause-room : goal.put_equations-requires-clause-room
put_equations-requires-clause-room c =
    let n = c.args.self.now in
    let cells = c.args.writer.now.cells.now in
    let flows = flat_map flow_fields (take (n.inputs + n.outputs + n.locals) n.flows.items) in
    let clocks = flat_map clock_fields n.clocks.items in
    let equations = (5, length (map (equation_in cells) n.equations.items)) ∷ flat_map equation_fields (map (equation_in cells) n.equations.items) in
    let first : c.put_all.new.self.at ≡ c.put_counts.new.self.at + size flows = c.put_all.ensures.place ∙ ap (λ xs. c.put_counts.new.self.at + size (flat_map flow_fields xs)) (c.front.ensures ∙ (λ i. take (c.flow_count.ensures i) (c.deref.ensures.0 i))) in
    let at : c.put_all-2.new.self.at ≡ c.put_all.new.self.at + size clocks = c.put_all-2.ensures.place ∙ ap (λ xs. c.put_all.new.self.at + size (flat_map clock_fields xs)) c.deref-2.ensures.0 in
    let same : c.put_all-2.new.self.cells.now ≡ cells = c.put_all-2.ensures.same_cells ∙ c.put_all.ensures.same_cells ∙ c.put_counts.ensures.same_cells in
    rw (same, c.deref-3.ensures.0) record { bits = omega (arith, c.requires.bits, at, first, c.put_counts.ensures.place, size_append flows (clocks ++ equations), size_append clocks equations) }
