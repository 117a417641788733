-- Tests of the images of a list's elements: what a chain answers that makes an image of each element first.
use Rattle.std.proofs.Common.{◌≡◌, ℕ, ◌+◌, Bool, ◌&&◌, ◌||◌, List, [], ◌∷◌, map, Option, sym, refl, ap, ◌∙◌}
use denote.Param.Members.{Mut, Called}
use Rattle.std.specs.Iterator.{ChecksAll, ChecksAny}
use Rattle.std.specs.List.{list_all, list_any, enumerate_from}
use Rattle.std.proofs.lemmas.Iterator.{YieldsList}
use Rattle.std.proofs.lemmas.Iterator.Search.{all_from_yields_List, any_from_yields_List}
use Rattle.std.proofs.lemmas.List.Folds.{list_all-map}
use Rattle.rules.specs.Every.{every_from}

pub list_any-map : {A B : Type 0} (p : B → Bool) (h : A → B) (xs : List A) → list_any p (map h xs) ≡ list_any (λ x. p (h x)) xs
list_any-map p h [] = refl
list_any-map p h (x ∷ xs) = ap (λ t. p (h x) || t) (list_any-map p h xs)

all_places-map : {A B : Type 0} (p : ℕ → B → Bool) (h : A → B) (k : ℕ) (xs : List A) → list_all (λ e. p e.0 e.1) (enumerate_from k (map h xs)) ≡ list_all (λ e. p e.0 (h e.1)) (enumerate_from k xs)
all_places-map p h k [] = refl
all_places-map p h k (x ∷ xs) = ap (λ t. p k (h x) && t) (all_places-map p h (k + 1) xs)

module _ {S A B C F : Type 0} {steps : S → Option A → S → Type 0} {g : Mut F (A × Unit {0}) Bool} {s : S} (u : S) (f : F) (r : Bool) where
  -- `iter().all(..)`, `iter().any(..)`
  pub all_images : {v : A → B} {xs : List B} (p : C → Bool) (h : B → C) → ChecksAll steps g s f r u → YieldsList steps v s xs
      → ((x : A) (b : Bool) (q : F) → Called g f (x, tt) b q → (q ≡ f) × (b ≡ p (h (v x)))) → r ≡ list_all p (map h xs)
  all_images {xs = xs} p h ran road each = all_from_yields_List (λ x. p (h x)) u f r ran road each ∙ sym (list_all-map p h xs)

  pub any_image : {v : A → B} {xs : List B} (p : C → Bool) (h : B → C) → ChecksAny steps g s f r u → YieldsList steps v s xs
      → ((x : A) (b : Bool) (q : F) → Called g f (x, tt) b q → (q ≡ f) × (b ≡ p (h (v x)))) → r ≡ list_any p (map h xs)
  any_image {xs = xs} p h ran road each = any_from_yields_List (λ x. p (h x)) u f r ran road each ∙ sym (list_any-map p h xs)

  -- `iter().enumerate().all(..)`
  pub all_placed_images : {v : A → ℕ × B} (p : ℕ → C → Bool) (h : B → C) (xs : List B) → ChecksAll steps g s f r u → YieldsList steps v s (enumerate_from 0 xs)
      → ((x : A) (b : Bool) (q : F) → Called g f (x, tt) b q → (q ≡ f) × (b ≡ p (v x).0 (h (v x).1))) → r ≡ list_all (λ e. p e.0 e.1) (enumerate_from 0 (map h xs))
  all_placed_images p h xs ran road each = all_from_yields_List (λ e. p e.0 (h e.1)) u f r ran road each ∙ sym (all_places-map p h 0 xs)

-- a test that asks for no place passes wherever the places begin
pub every_at : {A : Type 0} (p : A → Bool) (i j : ℕ) (xs : List A) → every_from (λ k x. p x) i xs ≡ every_from (λ k x. p x) j xs
every_at p i j [] = refl
every_at p i j (x ∷ xs) = ap (λ t. p x && t) (every_at p (i + 1) (j + 1) xs)
