-- What a refusal of examining tells: number, stage and two places, for every case.
use Rattle.std.specs.Prelude.{ℕ, Some, None, Option}
use Rattle.syntax.specs.declared.fault.Fault.{Fault}
use Rattle.syntax.specs.declared.fault.Stage.TheVariants.{Examining}
use Rattle.rules.specs.declared.fault.Check.{Check}
use Rattle.rules.specs.declared.fault.Check.TheVariants as check
use Rattle.rules.specs.declared.fault.Place.{Place}
use Rattle.rules.specs.declared.fault.ExamineFault.{ExamineFault}
use Rattle.rules.specs.declared.fault.ExamineFault.TheVariants.{Misfit, OutOfShape, WrongKind, WrongClock, NotDefinedOnce, RestsOnItself, TooLarge}

-- the fault of a check that fails at a place
abbrev pub fault_at : Check → Place → ExamineFault
fault_at check.Fit p = Misfit p
fault_at check.Shape p = OutOfShape p
fault_at check.Kinds p = WrongKind p
fault_at check.Clocks p = WrongClock p
fault_at check.Definitions p = NotDefinedOnce p.node
fault_at check.Cycles p = RestsOnItself p.node
fault_at check.Size p = TooLarge p.node

-- an equation's number, 31 for none
abbrev pub equation_number : Option ℕ → ℕ
equation_number None = 31
equation_number (Some i) = i

-- node and equation
abbrev pub fault_in : ℕ → ℕ → ℕ → Fault
fault_in number node equation = record { number = number; stage = Examining; first = node; second = equation }

-- 6 to 12, of examining
abbrev pub fault_of_examine : ExamineFault → Fault
fault_of_examine (Misfit p) = fault_in 6 p.node (equation_number p.equation)
fault_of_examine (OutOfShape p) = fault_in 7 p.node (equation_number p.equation)
fault_of_examine (WrongKind p) = fault_in 8 p.node (equation_number p.equation)
fault_of_examine (WrongClock p) = fault_in 9 p.node (equation_number p.equation)
fault_of_examine (NotDefinedOnce k) = fault_in 10 k 31
fault_of_examine (RestsOnItself k) = fault_in 11 k 31
fault_of_examine (TooLarge k) = fault_in 12 k 31
