-- Tests of the elements of a list.
use Rattle.std.specs.Prelude.{ℕ, Bool, List, nat_eq}
use Rattle.std.specs.List.{list_all, list_any, enumerate_from}

-- every element passes at its place, the first of them at k
abbrev pub every_from : {A : Type 0} → (ℕ → A → Bool) → ℕ → List A → Bool
every_from p k xs = list_all (λ e. p e.0 e.1) (enumerate_from k xs)

-- x is one of these
abbrev pub has : ℕ → List ℕ → Bool
has x xs = list_any (λ y. nat_eq x y) xs
