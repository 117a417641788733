-- Small programs, what they answer, and at which classes they are cleared.
use Rattle.std.specs.Prelude.{◌≡◌, ℕ, Bool, true, false, not, ◌&&◌, ◌||◌, List, [], ◌∷◌, map, ℤ, pos, negsuc, Some, None, Option, slice_index, slice_index_or}
use Rattle.std.specs.Bool.{beq}
use Rattle.std.specs.List.{AllZip}
use Rattle.syntax.specs.declared.cell.UnaryOp.TheVariants.{Not, Minus}
use Rattle.syntax.specs.declared.header.Kind.TheVariants as kind
use Rattle.syntax.specs.declared.header.Constant.TheVariants as constant
use Rattle.classes.specs.Systems.{ranked}
use Rattle.numbers.specs.Points.{points}
use Rattle.rules.specs.Trees.{flow, truth, number, unary, binary, when, simple, merge, choose}
use Rattle.flat.specs.declared.row.Clock.TheVariants.{Base, On}
use Rattle.flat.specs.declared.value.Value.{Value}
use Rattle.flat.specs.declared.value.Value.TheVariants.{Truth, Number}
use Rattle.flat.specs.Programs.{input, plain, delay, Program, Ordered}
use Rattle.flat.specs.Values.{Answers, control_value}
use Rattle.flat.specs.Beats.{Held, History, SameAnswers, SameHeld}
use Rattle.flat.specs.Typing.{Typed}
use Rattle.flat.specs.Secrecy.{AlikeBelow, SameBelow, HeldBelow}
use Rattle.flat.specs.Clearing.{Reaches, Marks, least, Clearable, Leak, InputClocks}
use Rattle.flat.specs.Cleared.{MainInputs}

-- one output that is not its input
abbrev pub negation : Program
negation = record {
  main = 2;
  rows =
      record { kind = kind.Truth; clock = Base; definition = input }
      ∷ record { kind = kind.Truth; clock = Base; definition = plain (simple (unary Not (flow 0))) }
      ∷ [];
}

-- total (1) is before plus add (0), and before (2) is 0 fby total
abbrev pub tally : Program
tally = record {
  main = 2;
  rows =
      record { kind = kind.Number; clock = Base; definition = input }
      ∷ record { kind = kind.Number; clock = Base; definition = plain (simple (binary 3 (flow 2) (flow 0))) }
      ∷ record { kind = kind.Number; clock = Base; definition = delay (constant.Number (pos 0)) (flow 1) }
      ∷ [];
}

-- shown (2) is score (0) when done (1)
abbrev pub shown : Program
shown = record {
  main = 3;
  rows =
      record { kind = kind.Number; clock = Base; definition = input }
      ∷ record { kind = kind.Truth; clock = Base; definition = input }
      ∷ record { kind = kind.Number; clock = On 1 true; definition = plain (simple (when (flow 0) 1 true)) }
      ∷ [];
}

-- pulse (1) is 0 fby 5 where done (0) is true: nothing but its clock tells of done
abbrev pub pulse : Program
pulse = record {
  main = 2;
  rows =
      record { kind = kind.Truth; clock = Base; definition = input }
      ∷ record { kind = kind.Number; clock = On 0 true; definition = delay (constant.Number (pos 0)) (number (pos 5)) }
      ∷ [];
}

-- lamp (1) is 5 where done (0) is true, as in a node that is called there: its cells name no flow at all
abbrev pub lamp : Program
lamp = record {
  main = 2;
  rows =
      record { kind = kind.Truth; clock = Base; definition = input }
      ∷ record { kind = kind.Number; clock = On 0 true; definition = plain (simple (number (pos 5))) }
      ∷ [];
}

-- later (1) is 0 fby score (0)
abbrev pub later : Program
later = record {
  main = 2;
  rows =
      record { kind = kind.Number; clock = Base; definition = input }
      ∷ record { kind = kind.Number; clock = Base; definition = delay (constant.Number (pos 0)) (flow 0) }
      ∷ [];
}

-- three inputs: the first is present by the second, and the second by the third
abbrev pub nested : Program
nested = record {
  main = 3;
  rows =
      record { kind = kind.Number; clock = On 1 true; definition = input }
      ∷ record { kind = kind.Truth; clock = On 2 false; definition = input }
      ∷ record { kind = kind.Truth; clock = Base; definition = input }
      ∷ [];
}

-- an output (1) that is an input (0), by two inner flows
abbrev pub relay : Program
relay = record {
  main = 2;
  rows =
      record { kind = kind.Number; clock = Base; definition = input }
      ∷ record { kind = kind.Number; clock = Base; definition = plain (simple (flow 2)) }
      ∷ record { kind = kind.Number; clock = Base; definition = plain (simple (flow 3)) }
      ∷ record { kind = kind.Number; clock = Base; definition = plain (simple (flow 0)) }
      ∷ [];
}

-- the answers of a flow in every history of these readings
abbrev pub Answer : Program → List (List ℤ) → ℕ → List (Option (Value ℤ)) → Type 0
Answer p readings x vs = (as' : List (Answers ℤ)) (last : Held ℤ) → History points p readings as' last → map (λ (a : Answers ℤ). a x) as' ≡ vs

abbrev pub counts : List ℤ → List (Option (Value ℤ))
counts zs = map (λ z. Some (Number z)) zs

-- classes by a list
abbrev pub sheet : List ℕ → ℕ → ℕ
sheet cs x = slice_index cs x

-- under the least inner classes, x is the lowest main flow whose constraint fails
abbrev pub Leaks : Program → List ℕ → ℕ → Type 0
Leaks p cs x = (has : ℕ → ℕ → Bool) → Marks p has → Leak (ranked 255) p (least (ranked 255) p has (sheet cs)) x

pub record Negation : Type 0 where
  pub ordered : Ordered negation (0 ∷ 1 ∷ [])
  pub typed : Typed negation
  -- a truth is true unless its reading is 0
  pub answers : Answer negation ((pos 0 ∷ []) ∷ (pos 5 ∷ []) ∷ []) 1 (Some (Truth true) ∷ Some (Truth false) ∷ [])
  pub cleared : Clearable (ranked 255) negation (sheet (1 ∷ 1 ∷ []))
  pub refused : Leaks negation (1 ∷ 0 ∷ []) 1

pub record Tally : Type 0 where
  pub ordered : Ordered tally (0 ∷ 2 ∷ 1 ∷ [])
  pub typed : Typed tally
  -- 3, 4 and -2 add up to 3, 7 and 5, and before each beat there was 0, 3 and 7
  pub total : Answer tally ((pos 3 ∷ []) ∷ (pos 4 ∷ []) ∷ (negsuc 1 ∷ []) ∷ []) 1 (counts (pos 3 ∷ pos 7 ∷ pos 5 ∷ []))
  pub before : Answer tally ((pos 3 ∷ []) ∷ (pos 4 ∷ []) ∷ (negsuc 1 ∷ []) ∷ []) 2 (counts (pos 0 ∷ pos 3 ∷ pos 7 ∷ []))
  pub holds : (as' : List (Answers ℤ)) (last : Held ℤ) → History points tally ((pos 3 ∷ []) ∷ (pos 4 ∷ []) ∷ (negsuc 1 ∷ []) ∷ []) as' last → last 2 ≡ Number (pos 5)
  -- other readings leave another value, for who sees the delay
  pub differ : (as' bs : List (Answers ℤ)) (h k : Held ℤ) → History points tally ((pos 3 ∷ []) ∷ []) as' h → History points tally ((pos 4 ∷ []) ∷ []) bs k
      → (SameHeld tally h k → ⊥) × (HeldBelow (ranked 255) tally (sheet []) 0 h k → ⊥)
  pub cleared : Clearable (ranked 255) tally (sheet (1 ∷ 1 ∷ []))
  -- the least class of the inner flow is that of total, the one main flow that reaches it
  pub inner : (has : ℕ → ℕ → Bool) → Marks tally has → least (ranked 255) tally has (sheet (2 ∷ 1 ∷ [])) 2 ≡ 1
  pub refused : Leaks tally (2 ∷ 1 ∷ []) 1

pub record Shown : Type 0 where
  pub ordered : Ordered shown (0 ∷ 1 ∷ 2 ∷ [])
  pub typed : Typed shown
  pub answers : Answer shown ((pos 5 ∷ pos 1 ∷ []) ∷ (pos 6 ∷ pos 0 ∷ []) ∷ []) 2 (Some (Number (pos 5)) ∷ None ∷ [])
  -- score 1, done 0, shown 1
  pub cleared : Clearable (ranked 255) shown (sheet (1 ∷ 0 ∷ 1 ∷ []))
  -- score 1, done 0, shown 0; and score 0, done 1, shown 0
  pub refused_value : Leaks shown (1 ∷ 0 ∷ 0 ∷ []) 2
  pub refused_clock : Leaks shown (0 ∷ 1 ∷ 0 ∷ []) 2
  -- with the last classes readings that are alike at or below 0 give answers that are not, since one is absent
  pub alike : AllZip (AlikeBelow (ranked 255) shown (sheet (0 ∷ 1 ∷ 0 ∷ [])) 0) ((pos 5 ∷ pos 1 ∷ []) ∷ []) ((pos 5 ∷ pos 0 ∷ []) ∷ [])
  pub tells : (as' bs : List (Answers ℤ)) (h k : Held ℤ)
      → History points shown ((pos 5 ∷ pos 1 ∷ []) ∷ []) as' h → History points shown ((pos 5 ∷ pos 0 ∷ []) ∷ []) bs k
      → (AllZip (SameAnswers shown) as' bs → ⊥) × (AllZip (SameBelow (ranked 255) shown (sheet (0 ∷ 1 ∷ 0 ∷ [])) 0) as' bs → ⊥)

-- a clock alone is counted, and all of its parents
pub record Clocks : Type 0 where
  pub pulse_ordered : Ordered pulse (0 ∷ 1 ∷ [])
  pub pulse_typed : Typed pulse
  -- absent, it keeps what it holds
  pub pulse_answers : Answer pulse ((pos 0 ∷ []) ∷ (pos 1 ∷ []) ∷ (pos 0 ∷ []) ∷ (pos 1 ∷ []) ∷ []) 1 (None ∷ Some (Number (pos 0)) ∷ None ∷ Some (Number (pos 5)) ∷ [])
  pub pulse_refused : Leaks pulse (1 ∷ 0 ∷ []) 1
  pub lamp_ordered : Ordered lamp (0 ∷ 1 ∷ [])
  pub lamp_typed : Typed lamp
  pub lamp_answers : Answer lamp ((pos 0 ∷ []) ∷ (pos 1 ∷ []) ∷ []) 1 (None ∷ Some (Number (pos 5)) ∷ [])
  pub lamp_refused : Leaks lamp (1 ∷ 0 ∷ []) 1
  pub nested_ordered : Ordered nested (2 ∷ 1 ∷ 0 ∷ [])
  pub nested_typed : Typed nested
  pub nested_inputs : InputClocks nested × MainInputs nested
  pub nested_answers : Answer nested ((pos 5 ∷ pos 1 ∷ pos 0 ∷ []) ∷ (pos 5 ∷ pos 0 ∷ pos 0 ∷ []) ∷ (pos 5 ∷ pos 1 ∷ pos 1 ∷ []) ∷ []) 0 (Some (Number (pos 5)) ∷ None ∷ None ∷ [])
  pub nested_refused : Leaks nested (0 ∷ 0 ∷ 1 ∷ []) 0

-- what a delay keeps is counted
pub record Later : Type 0 where
  pub ordered : Ordered later (0 ∷ 1 ∷ [])
  pub typed : Typed later
  pub answers : Answer later ((pos 3 ∷ []) ∷ (pos 4 ∷ []) ∷ []) 1 (counts (pos 0 ∷ pos 3 ∷ []))
  pub refused : Leaks later (1 ∷ 0 ∷ []) 1

-- inner flows pass classes on, one after the other
pub record Relay : Type 0 where
  pub ordered : Ordered relay (0 ∷ 3 ∷ 2 ∷ 1 ∷ [])
  pub typed : Typed relay
  pub reached : Reaches relay 0 1
  pub cleared : Clearable (ranked 255) relay (sheet (1 ∷ 2 ∷ []))
  pub inner : (has : ℕ → ℕ → Bool) → Marks relay has → least (ranked 255) relay has (sheet (1 ∷ 2 ∷ [])) 2 ≡ 1
  pub refused : Leaks relay (1 ∷ 0 ∷ []) 1

-- flow 0 is 5, flow 1 is true, and all others are absent
abbrev pub five_true : Answers ℤ
five_true x = slice_index_or (Some (Number (pos 5)) ∷ Some (Truth true) ∷ []) x None

pub record Values : Type 0 where
  -- merge of 5 when true and 0 when false: the other branch is absent
  pub merged : control_value points five_true (merge 1 (simple (when (flow 0) 1 true)) (simple (when (number (pos 0)) 1 false))) ≡ Some (Number (pos 5))
  pub chosen : control_value points five_true (choose (unary Not (flow 1)) (simple (flow 0)) (simple (unary Minus (flow 0)))) ≡ Some (Number (negsuc 4))
  pub absent_first : control_value points five_true (simple (binary 3 (flow 2) (flow 0))) ≡ None
  pub absent_second : control_value points five_true (simple (binary 3 (flow 0) (flow 2))) ≡ None
  pub absent_part : control_value points five_true (simple (unary Not (flow 2))) ≡ None
  pub other_side : control_value points five_true (simple (when (flow 0) 1 false)) ≡ None
  pub absent_choice : control_value points five_true (merge 2 (simple (flow 0)) (simple (flow 0))) ≡ None
  pub by_zero : control_value points five_true (simple (binary 6 (flow 0) (number (pos 0)))) ≡ Some (Number (pos 0))
  pub less : control_value points five_true (simple (binary 4 (flow 0) (number (pos 7)))) ≡ Some (Number (negsuc 1))
  pub below : control_value points five_true (simple (binary 7 (flow 0) (number (pos 7)))) ≡ Some (Truth true)
  pub same : control_value points five_true (simple (binary 8 (flow 0) (number (pos 7)))) ≡ Some (Truth false)
  pub conjunction : (a b : Bool) → control_value points five_true (simple (binary 0 (truth a) (truth b))) ≡ Some (Truth (a && b))
  pub disjunction : (a b : Bool) → control_value points five_true (simple (binary 1 (truth a) (truth b))) ≡ Some (Truth (a || b))
  pub difference : (a b : Bool) → control_value points five_true (simple (binary 2 (truth a) (truth b))) ≡ Some (Truth (not (beq a b)))

pub record WorkedExamples : Type 0 where
  pub negation : Negation
  pub tally : Tally
  pub shown : Shown
  pub clocks : Clocks
  pub later : Later
  pub relay : Relay
  pub values : Values
