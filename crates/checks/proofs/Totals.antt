-- Sums that stop at the largest number.
use Rattle.std.proofs.Common.{◌≡◌, ℕ, ◌+◌, List, [], ◌∷◌, map, ap, ◌∙◌, arith}
use Rattle.std.specs.List.{fold, sum_by}
use Rattle.std.proofs.lemmas.List.Sums.{sum_by-cons}
use Rattle.checks.specs.Sums.{capped}

-- a sum of capped numbers, capped, is the sum capped
pub capped-sum : (a b : ℕ) → capped (capped a + capped b) ≡ capped (a + b)
capped-sum a b = omega arith

pub capped_left : (a b : ℕ) → capped (capped a + b) ≡ capped (a + b)
capped_left a b = omega arith

pub capped_right : (a b : ℕ) → capped (a + capped b) ≡ capped (a + b)
capped_right a b = omega arith

module _ {A : Type 0} (f : A → ℕ) where
  fold_from : (a : ℕ) (xs : List A) → fold (λ s n. capped (s + n)) (capped a) (map f xs) ≡ capped (a + sum_by f xs)
  fold_from a [] = omega arith
  fold_from a (x ∷ xs) =
      let first : a + f x + sum_by f xs ≡ a + sum_by f (x ∷ xs) = omega (arith, sum_by-cons f x xs) in
      ap (λ s. fold (λ t n. capped (t + n)) s (map f xs)) (capped_left a (f x)) ∙ fold_from (a + f x) xs ∙ ap capped first

  -- a sum that is capped at each step is the sum capped
  pub capped_fold : (xs : List A) → fold (λ s n. capped (s + n)) 0 (map f xs) ≡ capped (sum_by f xs)
  capped_fold xs =
      let none : 0 ≡ capped 0 = omega arith in
      let same : 0 + sum_by f xs ≡ sum_by f xs = omega arith in
      ap (λ s. fold (λ t n. capped (t + n)) s (map f xs)) none ∙ fold_from 0 xs ∙ ap capped same
