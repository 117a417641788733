-- Lists that a function makes of a range of numbers, and lists of one element.
use Rattle.std.proofs.Common.{◌≡◌, ℕ, zero, suc, ◌+◌, ◌≤◌, map, get_or, replicate, refl, arith}
use Rattle.std.specs.List.{range_with_len}

-- functions that are the same from a place on make the same list there
pub map_same : {A : Type 0} (f g : ℕ → A) (from n : ℕ) → ((i : ℕ) → from ≤ i → f i ≡ g i) → map f (range_with_len from n) ≡ map g (range_with_len from n)
map_same f g from zero h = refl
map_same f g from (suc n) h = rw (h from (omega arith), map_same f g (from + 1) n (λ i l. h i (omega arith)))

-- a list of nothing but d reads as d, also past its end
pub read_replicated : {A : Type 0} (d : A) (n i : ℕ) → get_or (replicate n d) i d ≡ d
read_replicated d zero i = refl
read_replicated d (suc n) zero = refl
read_replicated d (suc n) (suc i) = read_replicated d n i
