-- Joins of lists, by the laws alone.
use Rattle.std.proofs.Common.{◌≡◌, Bool, true, false, ◌&&◌, T, List, [], ◌∷◌, fold, sym, refl, ap, ◌∙◌}
use Rattle.classes.specs.Classes.{Classes, ClassLaws, joined, UpperBound, all_below}

-- a test that holds exactly when two do is their conjunction
and_test : (a b c : Bool) → (T a → T b → T c) → (T c → T a) → (T c → T b) → (a && b) ≡ c
and_test true true true both first second = refl
and_test true true false both first second = absurd (both tt tt)
and_test true false true both first second = absurd (second tt)
and_test true false false both first second = refl
and_test false b true both first second = absurd (first tt)
and_test false b false both first second = refl

module _ {C : Type 0} {m : Classes C} (laws : ClassLaws m) where
  -- classes with the same classes above them are one
  same_above : (x y : C) → ((z : C) → T (m.below x z) → T (m.below y z)) → ((z : C) → T (m.below y z) → T (m.below x z)) → x ≡ y
  same_above x y h k = laws.antisymmetric x y (k y (laws.reflexive y)) (h x (laws.reflexive x))

  -- what a join is below, so is each of its parts
  pub first_below : (x y z : C) → T (m.below (m.join x y) z) → T (m.below x z)
  first_below x y z h = laws.transitive x (m.join x y) z (laws.join_first x y) h

  pub second_below : (x y z : C) → T (m.below (m.join x y) z) → T (m.below y z)
  second_below x y z h = laws.transitive y (m.join x y) z (laws.join_second x y) h

  -- what is above the join of a list is above each of its classes, and the other way round
  pub above : (xs : List C) (z : C) → T (m.below (joined m xs) z) → UpperBound m xs z
  above [] z h = tt
  above (x ∷ xs) z h = (first_below x (joined m xs) z h, above xs z (second_below x (joined m xs) z h))

  pub least : (xs : List C) (z : C) → UpperBound m xs z → T (m.below (joined m xs) z)
  least [] z h = laws.bottom_least z
  least (x ∷ xs) z h = laws.join_least x (joined m xs) z h.0 (least xs z h.1)

  to_left : (x y z t : C) → T (m.below (m.join x (m.join y z)) t) → T (m.below (m.join (m.join x y) z) t)
  to_left x y z t h =
      let k = second_below x (m.join y z) t h in
      laws.join_least (m.join x y) z t (laws.join_least x y t (first_below x (m.join y z) t h) (first_below y z t k)) (second_below y z t k)

  to_right : (x y z t : C) → T (m.below (m.join (m.join x y) z) t) → T (m.below (m.join x (m.join y z)) t)
  to_right x y z t h =
      let k = first_below (m.join x y) z t h in
      laws.join_least x (m.join y z) t (first_below x y t k) (laws.join_least y z t (second_below x y t k) (second_below (m.join x y) z t h))

  join_assoc : (x y z : C) → m.join x (m.join y z) ≡ m.join (m.join x y) z
  join_assoc x y z = same_above _ _ (to_left x y z) (to_right x y z)

  bottom_join : (x : C) → m.join m.bottom x ≡ x
  bottom_join x = same_above _ _ (second_below m.bottom x) (λ t h. laws.join_least m.bottom x t (laws.bottom_least t) h)

  join_bottom : (x : C) → m.join x m.bottom ≡ x
  join_bottom x = same_above _ _ (first_below x m.bottom) (λ t h. laws.join_least x m.bottom t h (laws.bottom_least t))

  -- a fold from a class on joins that class with the join of the list
  fold_join : (xs : List C) (a : C) → fold m.join a xs ≡ m.join a (joined m xs)
  fold_join [] a = sym (join_bottom a)
  fold_join (x ∷ xs) a = fold_join xs (m.join a x) ∙ sym (join_assoc a x (joined m xs))

  pub fold_joined : (xs : List C) → fold m.join m.bottom xs ≡ joined m xs
  fold_joined xs = fold_join xs m.bottom ∙ bottom_join (joined m xs)

  -- the test of each class is the test of their join
  pub test_joined : (xs : List C) (z : C) → all_below m xs z ≡ m.below (joined m xs) z
  test_joined [] z = and_test true true (m.below m.bottom z) (λ _ _. laws.bottom_least z) (λ _. tt) (λ _. tt)
  test_joined (x ∷ xs) z =
      let y = joined m xs in
      ap (λ (t : Bool). m.below x z && t) (test_joined xs z)
      ∙ and_test (m.below x z) (m.below y z) (m.below (m.join x y) z) (laws.join_least x y z) (first_below x y z) (second_below x y z)
