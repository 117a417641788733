-- Worked examples of the format.
use Rattle.std.specs.Prelude.{◌≡◌, ℕ, List, [], ◌∷◌, Ok, Err}
use Rattle.syntax.specs.declared.cell.Cell.TheVariants.{Flow, Unary}
use Rattle.syntax.specs.declared.cell.UnaryOp.TheVariants.{Not}
use Rattle.syntax.specs.declared.header.Kind.TheVariants.{Truth}
use Rattle.syntax.specs.declared.fault.ReadFault.TheVariants.{Ends, Filling}
use Rattle.syntax.specs.Syntax.{BlockSyntax, plain}
use Rattle.syntax.specs.Decoder.{decode}
use Rattle.syntax.specs.Encoder.{encode}

-- one node with a truth as input and a truth as output, which is not the input
abbrev pub inverter : BlockSyntax
inverter = record {
  inputs = 1;
  outputs = 1;
  locals = 0;
  flows = record { kind = Truth; clock = 0 } ∷ record { kind = Truth; clock = 0 } ∷ [];
  clocks = [];
  equations = record { clock = 0; form = plain 1 (Flow 0 ∷ Unary Not ∷ []) } ∷ [];
} ∷ []

-- B7 00 00 00 08 02 10 01 and a last byte
abbrev pub bytes_with : List ℕ → List ℕ
bytes_with end = 183 ∷ 0 ∷ 0 ∷ 0 ∷ 8 ∷ 2 ∷ 16 ∷ 1 ∷ end

pub record WorkedExamples : Type 0 where
  pub reads : decode (bytes_with (128 ∷ [])) ≡ Ok inverter
  pub writes : encode inverter ≡ bytes_with (128 ∷ [])
  pub filling : decode (bytes_with (129 ∷ [])) ≡ Err (Filling 66)
  pub short : decode (bytes_with []) ≡ Err (Ends 61)
