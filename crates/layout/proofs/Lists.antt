-- Laws of the lists that rows are made of.
use Rattle.std.proofs.Common.{◌≡◌, ℕ, suc, ◌+◌, ◌-◌, ◌<◌, ◌≤◌, min, List, [], ◌∷◌, ◌++◌, length, take, drop, sym, refl, ap, ◌∙◌, ⊎_elim, append-nil, add-zero, arith, length-append}
use native.Mathlib.Nat.{min-eq_left, min-eq_right}
use Rattle.std.proofs.lemmas.List.{take_rest, drop_all}
use Rattle.std.proofs.lemmas.Bool.{cases_lt}
use Rattle.syntax.specs.declared.cell.Cell.{Cell}
use Rattle.std.specs.List.{flat_map}
use Rattle.std.proofs.lemmas.List.Concat.{flat_map-append}
use Rattle.layout.specs.Layout.{rows_from}

pub flat_map-push : {A B : Type 0} (f : A → List B) (xs : List A) (x : A) → flat_map f (xs ++ (x ∷ [])) ≡ flat_map f xs ++ f x
flat_map-push f xs x = flat_map-append f xs (x ∷ []) ∙ ap (λ ys. flat_map f xs ++ ys) (append-nil (f x))

pub rows_none : {A B : Type 0} (row : ℕ → A → B) (cells : A → List Cell) (from : ℕ) → rows_from row cells from [] ≡ []
unfolding rows_from
rows_none row cells from = refl

pub length_rows : {A B : Type 0} (row : ℕ → A → B) (cells : A → List Cell) (from : ℕ) (xs : List A) → length (rows_from row cells from xs) ≡ length xs
unfolding rows_from
length_rows row cells from [] = refl
length_rows row cells from (x ∷ xs) = ap (λ n. suc n) (length_rows row cells (from + length (cells x)) xs)

pub rows_push : {A B : Type 0} (row : ℕ → A → B) (cells : A → List Cell) (from : ℕ) (xs : List A) (x : A) → rows_from row cells from (xs ++ (x ∷ [])) ≡ rows_from row cells from xs ++ (row (from + length (flat_map cells xs)) x ∷ [])
unfolding rows_from
rows_push row cells from [] x = rw add-zero
rows_push row cells from (y ∷ ys) x =
    let e : from + length (cells y) + length (flat_map cells ys) ≡ from + length (cells y ++ flat_map cells ys) = simp length-append (omega arith) in
    ap (λ zs. row from y ∷ zs) (rows_push row cells (from + length (cells y)) ys x ∙ ap (λ n. rows_from row cells (from + length (cells y)) ys ++ (row n x ∷ [])) e)

-- a part of a list that begins at its end at the latest
pub part_of : {A : Type 0} (f g l m n : ℕ) (xs : List A) → f ≡ l → g ≡ min f (length xs) → m ≡ n → take m (take (length xs - g) (drop g xs)) ≡ take n (drop l xs)
part_of f g l m n xs e i o =
    (λ t. take (o t) (take_rest xs g t))
    ∙ ap (take n)
    (⊎_elim
    (λ (u : f < length xs). let h : min f (length xs) ≡ f = min-eq_left (omega arith) in ap (λ k. drop k xs) (i ∙ h ∙ e))
    (λ (u : length xs ≤ f). let h : min f (length xs) ≡ length xs = min-eq_right u in drop_all g xs (omega (arith, i, h)) ∙ sym (drop_all l xs (omega (arith, e))))
    (cases_lt f (length xs)))
