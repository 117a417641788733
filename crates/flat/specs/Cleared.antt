-- What a cleared program tells, by the classes of its main flows alone.
use Rattle.std.specs.Prelude.{◌≡◌, ℕ, ◌<◌, List, ℤ, pos, slice_index_or}
use Rattle.std.specs.List.{AllZip}
use Rattle.classes.specs.Classes.{Classes}
use Rattle.numbers.specs.Reckonings.{Reckonings}
use Rattle.flat.specs.Programs.{Program, size, row, Ordered}
use Rattle.flat.specs.Values.{Answers}
use Rattle.flat.specs.Beats.{Held, AtInput, History}
use Rattle.flat.specs.Secrecy.{Seen}
use Rattle.flat.specs.Clearing.{Clearable}

-- every input is a main flow
abbrev pub MainInputs : Program → Type 0
MainInputs p = (x : ℕ) → x < size p → AtInput (x < p.main) (row p x).definition

-- two beats' readings are the same at every main input at or below t
abbrev pub AlikeMain : {C : Type 0} → Classes C → Program → (ℕ → C) → C → List ℤ → List ℤ → Type 0
AlikeMain m p given t is js = (x : ℕ) → x < size p → x < p.main → Seen m given t x → AtInput (slice_index_or is x (pos 0) ≡ slice_index_or js x (pos 0)) (row p x).definition

-- two beats' answers are the same, absence and value, at every main flow at or below t
abbrev pub SameMain : {C N : Type 0} → Classes C → Program → (ℕ → C) → C → Answers N → Answers N → Type 0
SameMain m p given t a b = (x : ℕ) → x < size p → x < p.main → Seen m given t x → a x ≡ b x

-- where some assignment meets every constraint, histories of readings that are the same at every main input at or
-- below t, beat by beat, are the same at every main flow at or below t
abbrev pub ClearedNoninterference : {C N : Type 0} → Classes C → Reckonings N → Type 0
ClearedNoninterference {C} {N} m r =
    (p : Program) (order : List ℕ) → Ordered p order → MainInputs p → (given : ℕ → C) → Clearable m p given → (t : C)
    → (is js : List (List ℤ)) (as' bs : List (Answers N)) (h k : Held N) → AllZip (AlikeMain m p given t) is js
    → History r p is as' h → History r p js bs k → AllZip (SameMain m p given t) as' bs
