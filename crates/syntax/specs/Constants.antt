-- What a constant is.
use Rattle.syntax.specs.declared.header.Constant.{Constant}
use Rattle.syntax.specs.declared.header.Constant.TheVariants.{Truth, Number}
use Rattle.syntax.specs.declared.header.Kind.{Kind}
use Rattle.syntax.specs.declared.header.Kind.TheVariants as kind

-- its kind
abbrev pub constant_kind : Constant → Kind
constant_kind (Truth b) = kind.Truth
constant_kind (Number z) = kind.Number
