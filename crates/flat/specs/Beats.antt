-- A beat of a program, and histories.
use Rattle.std.specs.Prelude.{◌≡◌, ℕ, ◌<◌, cond, List, [], ◌∷◌, ◌++◌, ℤ, pos, Some, None, Option, slice_index_or}
use Rattle.std.specs.List.{AllZip}
use Rattle.syntax.specs.declared.header.Kind.{Kind}
use Rattle.syntax.specs.declared.header.Constant.{Constant}
use Rattle.numbers.specs.Reckonings.{Reckonings}
use Rattle.rules.specs.Trees.{Exp}
use Rattle.flat.specs.declared.value.Value.{Value}
use Rattle.flat.specs.Programs.{Definition, input, plain, delay, Program, size, row, Ordered}
use Rattle.flat.specs.Values.{Answers, read_as, constant_value, gate, exp_value, control_value, on}

-- what delays hold between beats
abbrev pub Held : Type 0 → Type 0
Held N = ℕ → Value N

-- what a flow is where it is present: an input its reading, a plain flow its expression's value, a delay what
-- it holds
abbrev pub due : {N : Type 0} → Reckonings N → Held N → List ℤ → Answers N → ℕ → Kind → Definition → Option (Value N)
due r held readings answers x k input = Some (read_as r k (slice_index_or readings x (pos 0)))
due r held readings answers x k (plain c) = control_value r answers c
due r held readings answers x k (delay v e) = Some (held x)

-- a value, or what was held where there is none
abbrev pub renewed : {N : Type 0} → Option (Value N) → Value N → Value N
renewed None h = h
renewed (Some v) h = v

-- P of a delay's first value and expression
abbrev pub AtDelay : (Constant → Exp → Type 0) → Definition → Type 0
AtDelay P input = Unit {0}
AtDelay P (plain c) = Unit {0}
AtDelay P (delay v e) = P v e

-- P of an input
abbrev pub AtInput : Type 0 → Definition → Type 0
AtInput P input = P
AtInput P (plain c) = Unit {0}
AtInput P (delay v e) = Unit {0}

-- one beat, from what is held before it and the readings to the answers and what is held after it
pub record Beat {N : Type 0} (r : Reckonings N) (p : Program) (held : Held N) (readings : List ℤ) (answers : Answers N) (next : Held N) : Type 0 where
  -- a flow is absent where its clock is, and else what is due
  pub answered : (x : ℕ) → x < size p → answers x ≡ gate (on answers (row p x).clock) (due r held readings answers x (row p x).kind (row p x).definition)
  -- a present delay holds its expression's value after the beat, and an absent one what it held
  pub renews : (x : ℕ) → x < size p → AtDelay (λ v e. next x ≡ cond (on answers (row p x).clock) (renewed (exp_value r answers e) (held x)) (held x)) (row p x).definition

-- at first a delay holds its first value
abbrev pub Starts : {N : Type 0} → Reckonings N → Program → Held N → Type 0
Starts r p held = (x : ℕ) → x < size p → AtDelay (λ v e. held x ≡ constant_value r v) (row p x).definition

-- beat after beat: what is held before, the readings and the answers of each beat, what is held after
pub data Run {N : Type 0} (r : Reckonings N) (p : Program) : Held N → List (List ℤ) → List (Answers N) → Held N → Type 0 where
  none : {held : Held N} → Run r p held [] [] held
  beat : {held next last : Held N} {readings : List ℤ} {answers : Answers N} {more : List (List ℤ)} {others : List (Answers N)}
      → Beat r p held readings answers next → Run r p next more others last → Run r p held (readings ∷ more) (answers ∷ others) last

-- a history: a run from the first values
pub record History {N : Type 0} (r : Reckonings N) (p : Program) (readings : List (List ℤ)) (answers : List (Answers N)) (last : Held N) : Type 0 where
  pub first : Held N
  pub starts : Starts r p first
  pub run : Run r p first readings answers last

-- a history and one more beat are a history
abbrev pub HistoriesGrow : {N : Type 0} → Reckonings N → Type 0
HistoriesGrow {N} r =
    (p : Program) (readings : List (List ℤ)) (answers : List (Answers N)) (held : Held N) → History r p readings answers held
    → (is : List ℤ) (a : Answers N) (next : Held N) → Beat r p held is a next → History r p (readings ++ (is ∷ [])) (answers ++ (a ∷ [])) next

-- the same answer at every flow of the program
abbrev pub SameAnswers : {N : Type 0} → Program → Answers N → Answers N → Type 0
SameAnswers p a b = (x : ℕ) → x < size p → a x ≡ b x

-- the same value held by every delay
abbrev pub SameHeld : {N : Type 0} → Program → Held N → Held N → Type 0
SameHeld p h k = (x : ℕ) → x < size p → AtDelay (λ v e. h x ≡ k x) (row p x).definition

-- where the flows can be ordered, every beat has one answer, and every list of readings one history
pub record OneAnswer {N : Type 0} (r : Reckonings N) (p : Program) : Type 0 where
  pub some_beat : (held : Held N) (readings : List ℤ) → (answers : Answers N) × (next : Held N) × Beat r p held readings answers next
  pub one_beat : (held : Held N) (readings : List ℤ) (a b : Answers N) (h k : Held N)
      → Beat r p held readings a h → Beat r p held readings b k → SameAnswers p a b × SameHeld p h k
  pub some_history : (readings : List (List ℤ)) → (answers : List (Answers N)) × (last : Held N) × History r p readings answers last
  pub one_history : (readings : List (List ℤ)) (as' bs : List (Answers N)) (h k : Held N)
      → History r p readings as' h → History r p readings bs k → AllZip (SameAnswers p) as' bs × SameHeld p h k

abbrev pub OrderedOneAnswer : {N : Type 0} → Reckonings N → Type 0
OrderedOneAnswer r = (p : Program) (order : List ℕ) → Ordered p order → OneAnswer r p
