-- The words of NLUSTRE.
use Rattle.std.specs.Prelude.{ℕ, List, true, false, codes}
use Rattle.std.specs.Fmt.{signed_decimal}
use Rattle.syntax.specs.declared.cell.UnaryOp.{UnaryOp}
use Rattle.syntax.specs.declared.cell.UnaryOp.TheVariants.{Not, Minus}
use Rattle.syntax.specs.declared.header.Kind.{Kind}
use Rattle.syntax.specs.declared.header.Kind.TheVariants as kind
use Rattle.syntax.specs.declared.header.Constant.{Constant}
use Rattle.syntax.specs.declared.header.Constant.TheVariants as constant

abbrev pub kind_word : Kind → List ℕ
kind_word kind.Truth = codes "bool"
kind_word kind.Number = codes "int"

abbrev pub constant_text : Constant → List ℕ
constant_text (constant.Truth true) = codes "true"
constant_text (constant.Truth false) = codes "false"
constant_text (constant.Number z) = signed_decimal z

-- of an operator, before what it is applied to
abbrev pub unary_word : UnaryOp → List ℕ
unary_word Not = codes "not"
unary_word Minus = codes "-"
