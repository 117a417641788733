-- What a system of classes is, and what holds of any.
use Rattle.std.specs.Prelude.{◌≡◌, ℕ, Bool, T, List, [], ◌∷◌, Option}
use Rattle.std.specs.List.{AllByRecursion, list_all}

-- the answers of a system whose classes are of type C
pub record Classes (C : Type 0) : Type 0 where
  -- the least class
  pub bottom : C
  -- the least class at or above two
  pub join : C → C → C
  -- whether the first is at or below the second
  pub below : C → C → Bool
  -- the class that a code names, if it names one
  pub named : ℕ → Option C

-- `below` is an order with `bottom` as its least class, and `join` gives least upper bounds
pub record ClassLaws {C : Type 0} (m : Classes C) : Type 0 where
  -- every class is at or below itself
  pub reflexive : (x : C) → T (m.below x x)
  -- what is at or below a class is at or below all classes above that one
  pub transitive : (x y z : C) → T (m.below x y) → T (m.below y z) → T (m.below x z)
  -- two classes that are at or below each other are one
  pub antisymmetric : (x y : C) → T (m.below x y) → T (m.below y x) → x ≡ y
  -- the bottom is at or below every class
  pub bottom_least : (x : C) → T (m.below m.bottom x)
  -- a join is at or above its first part
  pub join_first : (x y : C) → T (m.below x (m.join x y))
  -- a join is at or above its second part
  pub join_second : (x y : C) → T (m.below y (m.join x y))
  -- a join is at or below every class that is at or above both its parts
  pub join_least : (x y z : C) → T (m.below x z) → T (m.below y z) → T (m.below (m.join x y) z)

-- the join of all the classes of a list
abbrev pub joined : {C : Type 0} → Classes C → List C → C
joined m [] = m.bottom
joined m (x ∷ xs) = m.join x (joined m xs)

-- z is at or above each class of a list
abbrev pub UpperBound : {C : Type 0} → Classes C → List C → C → Type 0
UpperBound m xs z = AllByRecursion (λ x. T (m.below x z)) xs

-- the same, as a test
abbrev pub all_below : {C : Type 0} → Classes C → List C → C → Bool
all_below m xs z = list_all (λ x. m.below x z) xs
