-- Calls that leave nothing behind.
use Rattle.std.specs.Prelude.{◌≡◌, ℕ, List, Ok, Err, Result}
use Rattle.syntax.specs.declared.fault.Fault.{Fault}
use Rattle.syntax.specs.declared.fault.ReadFault.{ReadFault}
use Rattle.syntax.specs.Decoder.{decode_into}
use Rattle.syntax.specs.Faults.{fault_of_read}
use Rattle.syntax.specs.Syntax.{BlockSyntax}
use Rattle.rules.specs.declared.fault.ExamineFault.{ExamineFault}
use Rattle.rules.specs.Examined.{Examined}
use Rattle.rules.specs.Faults.{fault_of_examine}
use Rattle.script.specs.Outcomes.{examine_text}

abbrev pub told : Result (Unit {0}) ExamineFault → Result (Unit {0}) Fault
told (Ok done) = Ok tt
told (Err e) = Err (fault_of_examine e)

-- what was read is examined; what was not is refused as reading refuses it
abbrev pub ExaminedAfter : Result BlockSyntax ReadFault → Result (Unit {0}) Fault → Type 0
ExaminedAfter (Err e) r = r ≡ Err (fault_of_read e)
ExaminedAfter (Ok b) r = (s : Result (Unit {0}) ExamineFault) × Examined b s × (r ≡ told s)

-- reading into so many cells, then examining
abbrev pub ExaminedFrom : ℕ → List ℕ → Result (Unit {0}) Fault → Type 0
ExaminedFrom cells bytes r = ExaminedAfter (decode_into cells bytes) r

-- a text that tells this
abbrev pub ExamineTold : ℕ → List ℕ → List ℕ → Type 0
ExamineTold cells bytes text = (r : Result (Unit {0}) Fault) × ExaminedFrom cells bytes r × (text ≡ examine_text r)
