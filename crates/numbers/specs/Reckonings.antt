-- What a reckoning of numbers means, and what an operator's code means under it.
use Rattle.std.specs.Prelude.{ℕ, Bool, cond, ℤ, Some, None, Option, ◌==◌}

-- the answers of a reckoning whose numbers are N
pub record Reckonings (N : Type 0) : Type 0 where
  pub take : ℤ → N
  pub minus : N → N
  pub plus : N → N → N
  pub less : N → N → N
  pub times : N → N → N
  pub quotient : N → N → N
  pub below : N → N → Bool
  pub same : N → N → Bool
  pub show : N → ℤ

-- the number that a binary operator makes of a and b, by its code
abbrev pub applied : {N : Type 0} → Reckonings N → ℕ → N → N → Option N
applied m op a b =
    cond (op == 3) (Some (m.plus a b))
    (cond (op == 4) (Some (m.less a b))
    (cond (op == 5) (Some (m.times a b))
    (cond (op == 6) (Some (m.quotient a b)) None)))

-- the truth that a binary operator makes of a and b, by its code
abbrev pub compared : {N : Type 0} → Reckonings N → ℕ → N → N → Option Bool
compared m op a b =
    cond (op == 7) (Some (m.below a b)) (cond (op == 8) (Some (m.same a b)) None)
