-- What is asked of a block, in which order, and what examining answers.
use Rattle.std.specs.Prelude.{◌≡◌, ℕ, zero, suc, ◌+◌, ◌&&◌, T, List, [], ◌∷◌, ◌++◌, map, length, Some, None, Ok, Err, Option, Result}
use Rattle.std.specs.List.{flat_map}
use Rattle.syntax.specs.Syntax.{EquationSyntax, NodeSyntax, BlockSyntax}
use Rattle.rules.specs.declared.fault.Check.{Check}
use Rattle.rules.specs.declared.fault.Check.TheVariants.{Fit, Shape, Kinds, Clocks, Definitions, Cycles, Size}
use Rattle.rules.specs.declared.fault.Place.{Place}
use Rattle.rules.specs.declared.fault.ExamineFault.{ExamineFault}
use Rattle.rules.specs.Faults.{fault_at}
use Rattle.rules.specs.Names.{node_at, equation_at}
use Rattle.rules.specs.Fit.{flows_fit, clocks_fit, equation_fits}
use Rattle.rules.specs.Shape.{form_shaped}
use Rattle.rules.specs.Kinds.{clocks_are_truths, form_kinded}
use Rattle.rules.specs.Clocks.{flows_clocked, clocks_clocked, form_clocked}
use Rattle.rules.specs.Definitions.{defined_once, NoCycle}
use Rattle.rules.specs.Size.{main_small}

-- r is the first of a list at which P fails, or none where P holds at all
pub data First {A : Type 0} (P : A → Type 0) : List A → Option A → Type 0 where
  none : First P [] None
  fails : {x : A} {xs : List A} → (P x → ⊥) → First P (x ∷ xs) (Some x)
  holds : {x : A} {xs : List A} {r : Option A} → P x → First P xs r → First P (x ∷ xs) r

-- what a check asks of node k as a whole: of its flows, and then of its derived clocks
abbrev pub NodeHolds : BlockSyntax → Check → ℕ → NodeSyntax → Type 0
NodeHolds b Fit k n = T (flows_fit n && clocks_fit n)
NodeHolds b Shape k n = Unit {0}
NodeHolds b Kinds k n = T (clocks_are_truths n)
NodeHolds b Clocks k n = T (flows_clocked b k n && clocks_clocked n)
NodeHolds b Definitions k n = T (defined_once n)
NodeHolds b Cycles k n = NoCycle n
NodeHolds b Size k n = T (main_small b k n)

-- what a check asks of an equation of node k
abbrev pub EquationHolds : BlockSyntax → Check → ℕ → NodeSyntax → EquationSyntax → Type 0
EquationHolds b Fit k n e = T (equation_fits b k n e)
EquationHolds b Shape k n e = T (form_shaped e.form)
EquationHolds b Kinds k n e = T (form_kinded b n e.form)
EquationHolds b Clocks k n e = T (form_clocked n e.clock e.form)
EquationHolds b Definitions k n e = Unit {0}
EquationHolds b Cycles k n e = Unit {0}
EquationHolds b Size k n e = Unit {0}

abbrev pub HoldsIn : BlockSyntax → Check → ℕ → Option ℕ → Type 0
HoldsIn b c k None = NodeHolds b c k (node_at b k)
HoldsIn b c k (Some i) = EquationHolds b c k (node_at b k) (equation_at (node_at b k) i)

-- the check holds at the place
abbrev pub Holds : BlockSyntax → Check → Place → Type 0
Holds b c p = HoldsIn b c p.node p.equation

-- the places of a node: the node as a whole, then its equations, the first of them numbered i
unfoldable pub equation_places : ℕ → ℕ → ℕ → List Place
equation_places k i zero = []
equation_places k i (suc left) = record { node = k; equation = Some i } ∷ equation_places k (i + 1) left

abbrev pub node_places : ℕ → NodeSyntax → List Place
node_places k n = record { node = k; equation = None } ∷ equation_places k 0 (length n.equations)

-- the places of a block, node by node
unfoldable pub places_from : ℕ → List NodeSyntax → List Place
places_from k [] = []
places_from k (n ∷ ns) = node_places k n ++ places_from (k + 1) ns

abbrev pub places : BlockSyntax → List Place
places b = places_from 0 b

-- a question: does the check hold at the place?
abbrev pub Question : Type 0
Question = Check × Place

abbrev pub questions_of : List Place → Check → List Question
questions_of ps c = map (λ p. (c, p)) ps

-- the checks, in the order in which they are made
abbrev pub checks : List Check
checks = Fit ∷ Shape ∷ Kinds ∷ Clocks ∷ Definitions ∷ Cycles ∷ Size ∷ []

-- one check after another, each at every place
abbrev pub questions : BlockSyntax → List Question
questions b = flat_map (questions_of (places b)) checks

abbrev pub answer_of : Option Question → Result (Unit {0}) ExamineFault
answer_of None = Ok tt
answer_of (Some q) = Err (fault_at q.0 q.1)

-- examining: done where every check holds at every place, else the fault of the first at which one does not
pub record Examined (b : BlockSyntax) (r : Result (Unit {0}) ExamineFault) : Type 0 where
  pub first : Option Question
  pub is_first : First (λ (q : Question). Holds b q.0 q.1) (questions b) first
  pub answers : r ≡ answer_of first

-- there is one such answer
abbrev pub ExaminedOnce : Type 0
ExaminedOnce = (b : BlockSyntax) (r s : Result (Unit {0}) ExamineFault) → Examined b r → Examined b s → r ≡ s
