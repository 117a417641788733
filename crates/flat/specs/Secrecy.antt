-- What it is that flows tell nothing of inputs above a class.
use Rattle.std.specs.Prelude.{◌≡◌, ℕ, ◌<◌, T, List, ℤ, pos, slice_index_or}
use Rattle.std.specs.List.{AllZip}
use Rattle.classes.specs.Classes.{Classes}
use Rattle.numbers.specs.Reckonings.{Reckonings}
use Rattle.flat.specs.Programs.{Program, size, row, Ordered}
use Rattle.flat.specs.Values.{Answers}
use Rattle.flat.specs.Beats.{Held, AtDelay, AtInput, History}
use Rattle.flat.specs.Constraints.{Meets}

-- the flow x is at or below t
abbrev pub Seen : {C : Type 0} → Classes C → (ℕ → C) → C → ℕ → Type 0
Seen m class t x = T (m.below (class x) t)

-- two beats' readings are the same at every input at or below t
abbrev pub AlikeBelow : {C : Type 0} → Classes C → Program → (ℕ → C) → C → List ℤ → List ℤ → Type 0
AlikeBelow m p class t is js = (x : ℕ) → x < size p → Seen m class t x → AtInput (slice_index_or is x (pos 0) ≡ slice_index_or js x (pos 0)) (row p x).definition

-- two beats' answers are the same, absence and value, at every flow at or below t
abbrev pub SameBelow : {C N : Type 0} → Classes C → Program → (ℕ → C) → C → Answers N → Answers N → Type 0
SameBelow m p class t a b = (x : ℕ) → x < size p → Seen m class t x → a x ≡ b x

-- every delay at or below t holds the same
abbrev pub HeldBelow : {C N : Type 0} → Classes C → Program → (ℕ → C) → C → Held N → Held N → Type 0
HeldBelow m p class t h k = (x : ℕ) → x < size p → Seen m class t x → AtDelay (λ v e. h x ≡ k x) (row p x).definition

-- where classes meet every constraint, histories of readings that are the same at every input at or below a
-- class t, beat by beat, are the same at every flow at or below t
abbrev pub Noninterference : {C N : Type 0} → Classes C → Reckonings N → Type 0
Noninterference {C} {N} m r =
    (p : Program) (order : List ℕ) → Ordered p order → (class : ℕ → C) → Meets m p class → (t : C)
    → (is js : List (List ℤ)) (as' bs : List (Answers N)) (h k : Held N) → AllZip (AlikeBelow m p class t) is js
    → History r p is as' h → History r p js bs k → AllZip (SameBelow m p class t) as' bs × HeldBelow m p class t h k
