-- Decoders: what stands in a list of bits from a place on, and the place after it, or why nothing does.
use Rattle.std.specs.Prelude.{ℕ, zero, suc, ◌+◌, List, [], ◌∷◌, Some, None, Ok, Err, Option, Result}
use Rattle.syntax.specs.declared.fault.ReadFault.{ReadFault}
use Rattle.syntax.specs.declared.fault.ReadFault.TheVariants.{Ends, NoMeaning}
use Rattle.bits.specs.Bits.{field_at}

abbrev pub Parser : Type 0 → Type 0
Parser A = List ℕ → ℕ → Result (A × ℕ) ReadFault

-- what comes after a reading: the rest, from its place on, or its fault
abbrev pub after : {A B : Type 0} → Result (A × ℕ) ReadFault → (A → ℕ → Result (B × ℕ) ReadFault) → Result (B × ℕ) ReadFault
after (Ok r) k = k r.0 r.1
after (Err e) k = Err e

-- one decoder, and then one that may depend on what the first gave
abbrev pub ◌>>=◌ : {A B : Type 0} → Parser A → (A → Parser B) → Parser B
◌>>=◌ p k bits at = after (p bits at) (λ v q. k v bits q)

-- reads nothing, and gives v
abbrev pub gives : {A : Type 0} → A → Parser A
gives v bits at = Ok (v, at)

-- the field that begins at bit b has a value with no meaning
abbrev pub no_meaning : {A : Type 0} → ℕ → Parser A
no_meaning b bits at = Err (NoMeaning b)

-- a number that is there, with the place w bits on
abbrev pub found : ℕ → ℕ → Option ℕ → Result (ℕ × ℕ) ReadFault
found w at (Some v) = Ok (v, at + w)
found w at None = Err (Ends at)

-- the next w bits as a number
unfoldable pub field : ℕ → Parser ℕ
field w bits at = found w at (field_at w bits at)

-- n readings by p, one after another
unfoldable pub many : {A : Type 0} → Parser A → ℕ → Parser (List A)
many p zero = gives []
many p (suc n) = do
  x ← p
  xs ← many p n
  gives (x ∷ xs)
