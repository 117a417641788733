use Rattle.std.proofs.Common.{◌≡◌, ◌+◌, map, ◌∙◌, length, sym, ap, arith}
use Rattle.std.proofs.iter.runs.Made.{chains}
use Rattle.std.proofs.lemmas.Grind.{common_steps}
use Rattle.std.specs.List.{fold}
use Rattle.std.proofs.lemmas.List.Folds.{fold-map}
use Rattle.syntax.specs.Syntax.{Expression}
use Rattle.layout.specs.declared.node.Span.{Span}
use Rattle.layout.specs.Layout.{expression_in}
use Rattle.checks.specs.Sums.{capped}
use Rattle.checks.proofs.Totals.{capped_fold}
use Rattle.checks.proofs.size.argument_cells.Goals as goal

pub returns : goal.returns
returns c =
    let cells = c.args.cells.now in
    let spans = c.args.arguments.now.items in
    let worth = λ (s : Span). length (expression_in cells s) in
    let e : c.fold.result ≡ fold (λ s n. capped (s + n)) 0 (map worth spans) = grind (arith, common_steps, chains) in
    e
    ∙ capped_fold worth spans
    ∙ ap capped (sym (fold-map (λ n (x : Expression). n + length x) (expression_in cells) 0 spans))
