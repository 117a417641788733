-- Which classes the flows of a program may have.
use Rattle.std.specs.Prelude.{◌≡◌, ℕ, ◌<◌, Bool, T, List, map}
use Rattle.classes.specs.Classes.{Classes, joined}
use Rattle.rules.specs.Trees.{Exp, Control}
use Rattle.flat.specs.declared.row.Clock.{Clock}
use Rattle.flat.specs.declared.row.Clock.TheVariants.{Base, On}
use Rattle.flat.specs.Programs.{Definition, input, plain, delay, Program, size, row, exp_flows, control_flows, clock_flows, Ordered}

-- the class of an expression: the join of the classes of all flows that it names
abbrev pub exp_class : {C : Type 0} → Classes C → (ℕ → C) → Exp → C
exp_class m class e = joined m (map class (exp_flows e))

abbrev pub control_class : {C : Type 0} → Classes C → (ℕ → C) → Control → C
control_class m class c = joined m (map class (control_flows c))

-- the class of a clock: the join of the classes of all flows that it goes by
abbrev pub clock_class : {C : Type 0} → Classes C → Program → (ℕ → C) → Clock → C
clock_class m p class k = joined m (map class (clock_flows p k))

-- the class that a flow must be at or above: its clock's, and but for an input its expression's with it
abbrev pub required : {C : Type 0} → Classes C → Program → (ℕ → C) → Clock → Definition → C
required m p class k input = clock_class m p class k
required m p class k (plain c) = m.join (clock_class m p class k) (control_class m class c)
required m p class k (delay v e) = m.join (clock_class m p class k) (exp_class m class e)

-- the constraint of a flow
abbrev pub Constraint : {C : Type 0} → Classes C → Program → (ℕ → C) → ℕ → Type 0
Constraint m p class x = T (m.below (required m p class (row p x).clock (row p x).definition) (class x))

-- classes that meet every constraint
abbrev pub Meets : {C : Type 0} → Classes C → Program → (ℕ → C) → Type 0
Meets m p class = (x : ℕ) → x < size p → Constraint m p class x

-- an assignment: it gives the main flows the classes that they are given
abbrev pub Assigns : {C : Type 0} → Program → (given class : ℕ → C) → Type 0
Assigns p given class = (x : ℕ) → x < p.main → class x ≡ given x

-- the base is bottom, and a derived clock's class is the join of its flow's and its parent's
pub record ClockClasses {C : Type 0} (m : Classes C) (p : Program) (class : ℕ → C) : Type 0 where
  pub base : clock_class m p class Base ≡ m.bottom
  pub derived : (x : ℕ) (s : Bool) → x < size p
      → clock_class m p class (On x s) ≡ m.join (class x) (clock_class m p class (row p x).clock)

abbrev pub OrderedClockClasses : {C : Type 0} → Classes C → Type 0
OrderedClockClasses {C} m = (p : Program) (order : List ℕ) → Ordered p order → (class : ℕ → C) → ClockClasses m p class
