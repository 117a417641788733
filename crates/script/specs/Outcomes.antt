-- The lines that a script prints.
use Rattle.std.specs.Prelude.{◌≡◌, ℕ, List, [], ◌∷◌, ◌++◌, length, take, Ok, Err, codes, decimal, Result}
use Rattle.syntax.specs.Faults.{fault_of_read, fault_of_write, told_text}
use Rattle.syntax.specs.declared.fault.Fault.{Fault}
use Rattle.syntax.specs.declared.fault.ReadFault.{ReadFault}
use Rattle.syntax.specs.declared.fault.WriteFault.{WriteFault}
use Rattle.script.specs.declared.fault.LineFault.{LineFault}
use Rattle.script.specs.declared.fault.LineFault.TheVariants.{UnknownCall, UnknownSystem, UnknownNumbers, WordCount, NotBytes, NotInRange, NotYet, OutOfMemory}
use Rattle.script.specs.Hex.{hex_of}

-- a refusal: its number, its stage and both places
abbrev pub refusal_text : List ℕ → Fault → List ℕ
refusal_text call f = call ++ (codes " refused " ++ told_text f)

-- that the call was refused by the fault that something converts to
abbrev pub TellsRefusal : {E : Type 0} → (E → Fault → Type 0) → List ℕ → E → List ℕ → Type 0
TellsRefusal converts call e text = (f : Fault) × converts e f × (text ≡ refusal_text call f)

-- that the call is done, or its refusal
abbrev pub TellsOutcome : {E : Type 0} → (E → Fault → Type 0) → List ℕ → Result (Unit {0}) E → List ℕ → Type 0
TellsOutcome converts call (Ok done) text = text ≡ call ++ codes " done"
TellsOutcome converts call (Err e) text = TellsRefusal converts call e text

abbrev pub read_text : Result (Unit {0}) ReadFault → List ℕ
read_text (Ok done) = codes "read done"
read_text (Err e) = refusal_text (codes "read") (fault_of_read e)

abbrev pub examine_text : Result (Unit {0}) Fault → List ℕ
examine_text (Ok done) = codes "examine done"
examine_text (Err f) = refusal_text (codes "examine") f

-- how many bytes, and their digits
abbrev pub written_text : List ℕ → List ℕ
written_text [] = codes "write 0 -"
written_text (b ∷ bs) = codes "write " ++ (decimal (length (b ∷ bs)) ++ (codes " " ++ hex_of (b ∷ bs)))

abbrev pub write_text : Result ℕ WriteFault → List ℕ → List ℕ
write_text (Ok n) out = written_text (take n out)
write_text (Err e) out = refusal_text (codes "write") (fault_of_write e)

-- what is wrong with a line
abbrev pub fault_text : LineFault → List ℕ
fault_text UnknownCall = codes "unknown call"
fault_text UnknownSystem = codes "unknown class system"
fault_text UnknownNumbers = codes "unknown numbers"
fault_text WordCount = codes "wrong number of words"
fault_text NotBytes = codes "not bytes in pairs of hexadecimal digits"
fault_text (NotInRange most) = codes "not a number from 0 to " ++ decimal most
fault_text NotYet = codes "not yet"
fault_text OutOfMemory = codes "out of memory"

-- a line that is no call
abbrev pub wrong_text : ℕ → LineFault → List ℕ
wrong_text n f = codes "line " ++ (decimal n ++ (codes ": " ++ fault_text f))
