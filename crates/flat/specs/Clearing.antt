-- The least classes of inner flows, and when a program is cleared.
use Rattle.std.specs.Prelude.{◌≡◌, ℕ, zero, suc, ◌<◌, ◌≤◌, Bool, cond, T, ◌↔◌, List, [], ◌∷◌, map, nat_lt}
use Rattle.std.specs.List.{AllByRecursion}
use Rattle.classes.specs.Classes.{Classes, joined}
use Rattle.flat.specs.Programs.{Definition, input, plain, delay, Program, size, row, sources, clock_flows}
use Rattle.flat.specs.Beats.{AtInput}
use Rattle.flat.specs.Constraints.{clock_class, Constraint, Meets, Assigns}

-- x stands in a list
pub data In {A : Type 0} (x : A) : List A → Type 0 where
  here : {xs : List A} → In x (x ∷ xs)
  there : {y : A} {xs : List A} → In x xs → In x (y ∷ xs)

-- the main flow d reaches the flow x: it bears on x, or on an inner flow that bears on the next, and so on to x
pub data Reaches (p : Program) (d : ℕ) : ℕ → Type 0 where
  direct : {x : ℕ} → x < size p → d < p.main → In d (sources p x) → Reaches p d x
  onward : {y x : ℕ} → Reaches p d y → p.main ≤ y → x < size p → In y (sources p x) → Reaches p d x

-- `has d x` tells whether d reaches x
pub record Marks (p : Program) (has : ℕ → ℕ → Bool) : Type 0 where
  pub sound : (d x : ℕ) → T (has d x) → Reaches p d x
  pub complete : (d x : ℕ) → Reaches p d x → T (has d x)

-- of any program it can be told
abbrev pub Marked : Type 0
Marked = (p : Program) → (has : ℕ → ℕ → Bool) × Marks p has

-- the numbers from k on, n of them looked at, that pass a test
abbrev pub passing : (ℕ → Bool) → ℕ → ℕ → List ℕ
passing t k zero = []
passing t k (suc n) = cond (t k) (k ∷ passing t (suc k) n) (passing t (suc k) n)

-- the main flows that reach x, in the order of their numbers
abbrev pub reaching : Program → (ℕ → ℕ → Bool) → ℕ → List ℕ
reaching p has x = passing (λ d. has d x) 0 p.main

-- a main flow has the class that it is given, and an inner one the join of those that reach it
abbrev pub least : {C : Type 0} → Classes C → Program → (ℕ → ℕ → Bool) → (ℕ → C) → ℕ → C
least m p has given x = cond (nat_lt x p.main) (given x) (joined m (map given (reaching p has x)))

-- classes that meet the constraints of all inner flows
abbrev pub MeetsInner : {C : Type 0} → Classes C → Program → (ℕ → C) → Type 0
MeetsInner m p class = (x : ℕ) → x < size p → p.main ≤ x → Constraint m p class x

-- some assignment meets every constraint
abbrev pub Clearable : {C : Type 0} → Classes C → Program → (ℕ → C) → Type 0
Clearable {C} m p given = (class : ℕ → C) × Assigns p given class × Meets m p class

-- x is the lowest main flow whose constraint fails
pub record Leak {C : Type 0} (m : Classes C) (p : Program) (class : ℕ → C) (x : ℕ) : Type 0 where
  pub main : x < p.main
  pub within : x < size p
  pub fails : Constraint m p class x → ⊥
  pub lower : (y : ℕ) → y < x → Constraint m p class y

-- an assignment, found, that decides: it is the least of those that meet the constraints of all inner flows; it
-- meets every constraint exactly when some assignment does, and is then at or below each that does; and where
-- none does, there is one lowest main flow whose constraint it fails
pub record ExactlyCleared {C : Type 0} (m : Classes C) (p : Program) (given found : ℕ → C) : Type 0 where
  pub assigns : Assigns p given found
  pub inner : MeetsInner m p found
  pub least_inner : (class : ℕ → C) → Assigns p given class → MeetsInner m p class → (x : ℕ) → x < size p → T (m.below (found x) (class x))
  pub cleared : Clearable m p given ↔ Meets m p found
  pub least_cleared : (class : ℕ → C) → Assigns p given class → Meets m p class → (x : ℕ) → x < size p → T (m.below (found x) (class x))
  pub refused : (Clearable m p given → ⊥) ↔ ((x : ℕ) × Leak m p found x)
  pub one_leak : (x y : ℕ) → Leak m p found x → Leak m p found y → x ≡ y

abbrev pub ExactClearing : {C : Type 0} → Classes C → Type 0
ExactClearing {C} m = (p : Program) (has : ℕ → ℕ → Bool) → Marks p has → (given : ℕ → C) → ExactlyCleared m p given (least m p has given)

-- the class of a main flow is at or above that of every main flow that reaches it
abbrev pub AboveReaching : {C : Type 0} → Classes C → Program → (ℕ → C) → ℕ → Type 0
AboveReaching m p given x = (d : ℕ) → Reaches p d x → T (m.below (given d) (given x))

-- P of a flow that is no input
abbrev pub AtDefined : Type 0 → Definition → Type 0
AtDefined P input = Unit {0}
AtDefined P (plain c) = P
AtDefined P (delay v e) = P

-- an output is at or above every main flow that reaches it
abbrev pub OutputsAbove : {C : Type 0} → Classes C → Program → (ℕ → C) → Type 0
OutputsAbove m p given = (x : ℕ) → x < p.main → AtDefined (AboveReaching m p given x) (row p x).definition

-- the input rule: an input is at or above its clock
abbrev pub InputRule : {C : Type 0} → Classes C → Program → (ℕ → C) → Type 0
InputRule m p given = (x : ℕ) → x < size p → x < p.main → AtInput (T (m.below (clock_class m p given (row p x).clock) (given x))) (row p x).definition

-- inputs' clocks go by main flows alone
abbrev pub InputClocks : Program → Type 0
InputClocks p = (x : ℕ) → x < size p → AtInput (AllByRecursion (λ d. d < p.main) (clock_flows p (row p x).clock)) (row p x).definition

-- clearing, asked of the given classes and with no join of inner ones
pub record ClearedWithoutJoins {C : Type 0} (m : Classes C) (p : Program) (given found : ℕ → C) : Type 0 where
  pub main : Meets m p found ↔ ((x : ℕ) → x < p.main → AboveReaching m p given x)
  pub outputs : InputClocks p → (Meets m p found ↔ (OutputsAbove m p given × InputRule m p given))

abbrev pub ClearingWithoutJoins : {C : Type 0} → Classes C → Type 0
ClearingWithoutJoins {C} m = (p : Program) (has : ℕ → ℕ → Bool) → Marks p has → (given : ℕ → C) → ClearedWithoutJoins m p given (least m p has given)
