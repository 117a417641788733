-- Rows and what they stand for.
use Rattle.std.proofs.Common.{◌≡◌, List, refl}
use Rattle.syntax.specs.declared.cell.Cell.{Cell}
use Rattle.layout.specs.declared.node.Form.{Form}
use Rattle.layout.specs.declared.node.Form.TheVariants.{Plain, Delay, Call}
use Rattle.layout.specs.Layout.{form_in}
use Rattle.rules.specs.Names.{defined_by}
use Rattle.rules.specs.Views.{row_defines}

pub row-defined : (cells : List Cell) (f : Form) → row_defines f ≡ defined_by (form_in cells f)
row-defined cells (Plain f s) = refl
row-defined cells (Delay f v s) = refl
row-defined cells (Call k rs es) = refl
