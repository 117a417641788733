use Rattle.std.proofs.Common.{refl}
use Rattle.bits.specs.Bits.{bits_of, digits, field_at, bytes_of}
use Rattle.syntax.specs.Parse.{field, many}
use Rattle.syntax.specs.Decoder.{read_cell, read_expression, read_flow, read_clock, read_plain, read_form_number, read_equation, read_count, read_equations, read_node, read_mark, read_fields, decode}
use Rattle.syntax.specs.Encoder.{encode}
use Rattle.syntax.proofs.laws.worked_examples.Goals as goal

pub returns : goal.returns
unfolding bits_of digits field_at bytes_of field many read_cell read_expression read_flow read_clock read_plain read_form_number read_equation read_count read_equations read_node read_mark read_fields decode encode
returns c = record { reads = refl; writes = refl; filling = refl; short = refl }
