-- What holds of each member of a list.
use Rattle.std.proofs.Common.{List, [], ◌∷◌, ◌++◌, map}
use Rattle.std.specs.List.{AllZip, AllByRecursion}
use Rattle.flat.specs.Clearing.{In, here, there}

module _ {A : Type 0} (P : A → Type 0) where
  pub all_at : {x : A} {xs : List A} → In x xs → AllByRecursion P xs → P x
  all_at here h = h.0
  all_at (there i) h = all_at i h.1

  pub all_of : (xs : List A) → ((x : A) → In x xs → P x) → AllByRecursion P xs
  all_of [] f = tt
  all_of (x ∷ xs) f = (f x here, all_of xs (λ y i. f y (there i)))

  pub all_left : (xs ys : List A) → AllByRecursion P (xs ++ ys) → AllByRecursion P xs
  all_left [] ys h = tt
  all_left (x ∷ xs) ys h = (h.0, all_left xs ys h.1)

  pub all_right : (xs ys : List A) → AllByRecursion P (xs ++ ys) → AllByRecursion P ys
  all_right [] ys h = h
  all_right (x ∷ xs) ys h = all_right xs ys h.1

  pub map_all : {B : Type 0} (f : B → A) (ys : List B) → AllByRecursion P (map f ys) → AllByRecursion (λ y. P (f y)) ys
  map_all f [] h = tt
  map_all f (y ∷ ys) h = (h.0, map_all f ys h.1)

-- a relation of two lists, place by place, for a weaker one
pub each_weaker : {A : Type 0} (P Q : A → A → Type 0) → ((x y : A) → P x y → Q x y) → (xs ys : List A) → AllZip P xs ys → AllZip Q xs ys
each_weaker P Q f [] [] e = tt
each_weaker P Q f [] (y ∷ ys) e = e
each_weaker P Q f (x ∷ xs) [] e = e
each_weaker P Q f (x ∷ xs) (y ∷ ys) e = (f x y e.0, each_weaker P Q f xs ys e.1)
