-- Things that wait on one another, and picking from them what waits no more.
use Rattle.std.specs.Prelude.{◌≡◌, ℕ, ◌<◌, Bool, false, not, ◌&&◌, List, [], length, Some, None, Option, ◌≢◌, IsTrue, slice_index, slice_index_or, zip}
use Rattle.std.specs.List.{list_any}
use Rattle.layout.specs.Vectors.{Items}
use Rattle.rules.specs.Definitions.{ByChain}

-- there is a mark at x
abbrev pub marked : List Bool → ℕ → Bool
marked s x = slice_index_or s x false

-- x waits on y: row x of the table has a mark at y
abbrev pub Waits : List (List Bool) → ℕ → ℕ → Type 0
Waits t x y = (x < length t) × (y < length t) × IsTrue (marked (slice_index_or t x []) y)

-- a thing with this row waits on something that is not done
abbrev pub is_held : List Bool → List Bool → Bool
is_held row done = list_any (λ (waits, is_done). waits && not is_done) (zip row done)

-- all that x waits on is done
abbrev pub Free : List (List Bool) → List Bool → ℕ → Type 0
Free t done x = (y : ℕ) → Waits t x y → IsTrue (marked done y)

-- x waits on y, which is not done
abbrev pub Held : List (List Bool) → List Bool → ℕ → ℕ → Type 0
Held t done x y = Waits t x y × (marked done y ≡ false)

-- x, where it is not done, is held by something
abbrev pub Stuck : List (List Bool) → List Bool → ℕ → Type 0
Stuck t done x = marked done x ≡ false → (y : ℕ) × Held t done x y

-- something that is free and not done, or nothing where all that is not done is held
abbrev pub Picked : List (List Bool) → List Bool → Option ℕ → Type 0
Picked t done (Some x) = (x < length t) × (marked done x ≡ false) × Free t done x
Picked t done None = (x : ℕ) → x < length t → Stuck t done x

-- the order has every thing once, each after those that it waits on
pub record Sorted (t : List (List Bool)) (order : List ℕ) : Type 0 where
  pub all : length order ≡ length t
  pub inside : (i : ℕ) → i < length order → slice_index order i < length t
  pub apart : (i j : ℕ) → i < j → j < length order → slice_index order i ≢ slice_index order j
  pub covers : (x : ℕ) → x < length t → (i : ℕ) × (i < length order) × (slice_index order i ≡ x)
  pub after : (i : ℕ) → i < length order → (y : ℕ) → Waits t (slice_index order i) y → (j : ℕ) × (j < i) × (slice_index order j ≡ y)

-- all are sorted, or one waits on itself by a chain
abbrev pub Settled : List (List Bool) → Option (Items ℕ) → Type 0
Settled t (Some order) = Sorted t order.items
Settled t None = (x : ℕ) × ByChain (Waits t) x x
