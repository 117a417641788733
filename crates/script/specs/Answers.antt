-- What calls print.
use Rattle.std.specs.Prelude.{◌≡◌, ℕ, List, Ok, Err, Result, codes, vec_items}
use Rattle.syntax.specs.declared.fault.ReadFault.{ReadFault}
use Rattle.syntax.specs.Decoder.{decode_into}
use Rattle.syntax.specs.Encoder.{encode}
use Rattle.syntax.specs.Faults.{fault_of_read}
use Rattle.syntax.specs.Syntax.{BlockSyntax}
use Rattle.layout.specs.Held.{read_answer, read_block}
use Rattle.script.specs.declared.command.Call.{Call}
use Rattle.script.specs.declared.command.Call.TheVariants as call
use Rattle.script.specs.Dry.{ExamineTold}
use Rattle.script.specs.Outcomes.{read_text, refusal_text, written_text}

-- a refusal where nothing is read; how a block that is read is listed is left open
abbrev pub ListTold : Result BlockSyntax ReadFault → List ℕ → Type 0
ListTold (Ok b) text = Unit {0}
ListTold (Err e) text = text ≡ refusal_text (codes "list") (fault_of_read e)

-- of a call on rows with so many cells that stand for a block
abbrev pub AnswerTold : ℕ → BlockSyntax → Call → List ℕ → Type 0
AnswerTold cells b (call.Read bytes) text = text ≡ read_text (read_answer (decode_into cells (vec_items bytes)))
AnswerTold cells b call.Write text = text ≡ written_text (encode b)
AnswerTold cells b (call.List bytes) text = ListTold (decode_into 4096 (vec_items bytes)) text
AnswerTold cells b (call.Examine bytes) text = ExamineTold 4096 (vec_items bytes) text

-- the block that these rows stand for after the call
abbrev pub block_after : ℕ → BlockSyntax → Call → BlockSyntax
block_after cells b (call.Read bytes) = read_block (decode_into cells (vec_items bytes))
block_after cells b call.Write = b
block_after cells b (call.List bytes) = b
block_after cells b (call.Examine bytes) = b
