-- Vectors that lie in a value, with blanks past their elements.
use Rattle.std.specs.Prelude.{ℕ, ◌-◌, List, ◌++◌, length, replicate}

-- what a contract sees of a vector: its elements in order
pub record Items (T : Type 0) : Type 0 where
  pub items : List T

-- xs and then blanks, n in all
abbrev pub padded : {A : Type 0} → ℕ → A → List A → List A
padded n d xs = xs ++ replicate (n - length xs) d
