-- What a refusal tells: number, stage and two places, for every case.
use Rattle.std.specs.Prelude.{ℕ, List, ◌++◌, codes, decimal}
use Rattle.syntax.specs.declared.fault.Fault.{Fault}
use Rattle.syntax.specs.declared.fault.Stage.{Stage}
use Rattle.syntax.specs.declared.fault.Stage.TheVariants.{Reading, Examining, Clearing, Running}
use Rattle.syntax.specs.declared.fault.ReadFault.{ReadFault}
use Rattle.syntax.specs.declared.fault.ReadFault.TheVariants.{TooFewCells, BlockLength, Ends, NoMeaning, Filling}
use Rattle.syntax.specs.declared.fault.WriteFault.{WriteFault}
use Rattle.syntax.specs.declared.fault.WriteFault.TheVariants.{TooShort}

-- 1 to 5, of reading; for 3 and 4 the place is the field's first bit, for 5 the bit after the last field
abbrev pub fault_of_read : ReadFault → Fault
fault_of_read TooFewCells = record { number = 1; stage = Reading; first = 0; second = 0 }
fault_of_read BlockLength = record { number = 2; stage = Reading; first = 0; second = 0 }
fault_of_read (Ends b) = record { number = 3; stage = Reading; first = b; second = 0 }
fault_of_read (NoMeaning b) = record { number = 4; stage = Reading; first = b; second = 0 }
fault_of_read (Filling b) = record { number = 5; stage = Reading; first = b; second = 0 }

-- 18, of running
abbrev pub fault_of_write : WriteFault → Fault
fault_of_write TooShort = record { number = 18; stage = Running; first = 0; second = 0 }

abbrev pub stage_name : Stage → List ℕ
stage_name Reading = codes "reading"
stage_name Examining = codes "examining"
stage_name Clearing = codes "clearing"
stage_name Running = codes "running"

-- how a refusal is told: its number, its stage and both places
abbrev pub told_text : Fault → List ℕ
told_text f = decimal f.number ++ (codes " " ++ (stage_name f.stage ++ (codes " " ++ (decimal f.first ++ (codes " " ++ decimal f.second)))))
