use Rattle.std.proofs.Common.{◌<◌, map, take, length, ap, ◌∙◌, arith, take_all}
use Rattle.std.proofs.lemmas.List.{map_push, length-map, length-take-le}
use Rattle.syntax.specs.Syntax.{EquationSyntax}
use Rattle.layout.specs.Layout.{equation_in}
use Rattle.rules.specs.Views.{node_of}
use Rattle.order.specs.Waiting.{waits_on}
use Rattle.order.proofs.Tables.{square-wait_rows, mapped_more}
use Rattle.order.proofs.table.WaitTable.of.Goals as goal

pub push-requires : goal.push-requires
push-requires c =
    let v = c.args.view.now in
    let es = (node_of v).equations in
    let i = c.loop-equation.equation-index in
    let long = length-map v.equations.now (equation_in v.cells.now) in
    let rows = length-map c.loop-equation.rows.items (λ row. row.items) in
    let done = length-map (take i es) (λ e. map (waits_on (node_of v) e) es) in
    let part = length-take-le i es (omega (arith, c.loop-equation-test.true, long)) in
    let same = ap length c.loop-equation.invariant in
    let inside : length c.loop-equation.rows.items < 23 = omega (arith, rows, done, part, same, c.loop-equation-test.true, c.requires) in
    (omega arith, (inside, omega (arith, inside)))

pub loop-equation-preserved : goal.loop-equation-preserved
loop-equation-preserved c =
    let v = c.args.view.now in
    let row = λ (e : EquationSyntax). map (waits_on (node_of v) e) (node_of v).equations in
    let e = c.row_of.ensures ∙ ap (λ equation. row (equation_in v.cells.now equation)) c.equation-item.is in
    ap (map (λ row. row.items)) c.push.ensures
    ∙ map_push (λ row. row.items) c.loop-equation.rows.items c.row_of.result
    ∙ mapped_more row (equation_in v.cells.now) _ _ _ c.loop-equation.invariant e c.loop-equation-test.true

pub invariant_of-result : goal.invariant_of-result
invariant_of-result c =
    let v = c.args.view.now in
    let all = take_all c.loop-equation.equation-index (node_of v).equations (omega (arith, length-map v.equations.now (equation_in v.cells.now))) in
    square-wait_rows (node_of v) c.loop-equation.rows.items (c.loop-equation.invariant ∙ ap (map _) all)
