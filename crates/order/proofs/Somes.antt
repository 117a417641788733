-- Tests of lists that are joined, and what a test finds.
use Rattle.std.proofs.Common.{ℕ, ◌≡◌, Bool, ◌||◌, IsTrue, eqb, List, [], ◌∷◌, sym, refl, ap, ◌∙◌, eq-eqb, eqb-true}
use Rattle.std.specs.List.{list_any}
use Rattle.std.proofs.lemmas.List.Folds.{list_any-append, Any-from_list_any, list_any_at}
use Rattle.std.specs.List.{flat_map}
use Rattle.rules.specs.Every.{has}

pub any-flat_map : {A B : Type 0} (p : B → Bool) (f : A → List B) (xs : List A) → list_any p (flat_map f xs) ≡ list_any (λ x. list_any p (f x)) xs
any-flat_map p f [] = refl
any-flat_map p f (x ∷ xs) = list_any-append p (f x) (flat_map f xs) ∙ ap (λ t. list_any p (f x) || t) (any-flat_map p f xs)

-- a number that passes is found where it stands
pub any_finds : (p : ℕ → Bool) (xs : List ℕ) → IsTrue (list_any p xs) → (y : ℕ) × IsTrue (has y xs) × IsTrue (p y)
any_finds p xs e =
    let (k, y, l, at, passes) = Any-from_list_any p xs e in
    (y, list_any_at (eqb y) xs k y l (eq-eqb y _ (sym at)), passes)

pub any-has : (p : ℕ → Bool) (y : ℕ) (xs : List ℕ) → IsTrue (has y xs) → IsTrue (p y) → IsTrue (list_any p xs)
any-has p y xs h e =
    let (k, z, l, at, same) = Any-from_list_any (eqb y) xs h in
    list_any_at p xs k z l (ap p (at ∙ sym (eqb-true y z same)) ∙ e)
