-- Lists a part of which is overwritten.
use Rattle.std.proofs.Common.{◌≡◌, ℕ, zero, suc, ◌+◌, ◌<◌, ◌≤◌, ◌≢◌, List, [], ◌∷◌, ◌++◌, length, get_or, set, refl, ap, ◌∙◌, arith, length-set, get_or-set_other, get_or-set_same}
use Rattle.bits.specs.Overwriting.{written}

-- nothing written
pub written_none : {A : Type 0} (xs : List A) (i : ℕ) → written xs i [] ≡ xs
unfolding written
written_none xs i = refl

-- the length stays
pub length-written : {A : Type 0} (xs : List A) (i : ℕ) (ys : List A) → length (written xs i ys) ≡ length xs
unfolding written
length-written xs i [] = refl
length-written xs i (y ∷ ys) = length-written (set xs i y) (i + 1) ys ∙ length-set xs i y

-- one part after the other
pub written-append : {A : Type 0} (xs : List A) (i : ℕ) (a b : List A) → written xs i (a ++ b) ≡ written (written xs i a) (i + length a) b
unfolding written
written-append xs i [] b = let e : i ≡ i + 0 = omega arith in ap (λ n. written xs n b) e
written-append xs i (y ∷ a) b =
    let e : i + 1 + length a ≡ i + suc (length a) = omega arith in
    written-append (set xs i y) (i + 1) a b ∙ ap (λ n. written (written (set xs i y) (i + 1) a) n b) e

-- one more element at the end
pub written-push : {A : Type 0} (xs : List A) (i : ℕ) (ys : List A) (y : A) → written xs i (ys ++ (y ∷ [])) ≡ set (written xs i ys) (i + length ys) y
unfolding written
written-push xs i ys y = written-append xs i ys (y ∷ [])

-- what stands before the part stays
pub written_before : {A : Type 0} (xs : List A) (i : ℕ) (ys : List A) (j : ℕ) (d : A) → j < i → get_or (written xs i ys) j d ≡ get_or xs j d
unfolding written
written_before xs i [] j d h = refl
written_before xs i (y ∷ ys) j d h =
    let n : j ≢ i = omega arith in
    written_before (set xs i y) (i + 1) ys j d (omega arith) ∙ get_or-set_other xs i j y d n

-- the part is as written
pub written_at : {A : Type 0} (xs : List A) (i : ℕ) (ys : List A) (k : ℕ) (d : A) → k < length ys → i + k < length xs → get_or (written xs i ys) (i + k) d ≡ get_or ys k d
unfolding written
written_at xs i [] k d h l = absurd (omega arith)
written_at xs i (y ∷ ys) zero d h l =
    let e : i + 0 ≡ i = omega arith in
    rw e (written_before (set xs i y) (i + 1) ys i d (omega arith) ∙ get_or-set_same xs i y d (omega arith))
written_at xs i (y ∷ ys) (suc k) d h l =
    let e : i + suc k ≡ i + 1 + k = omega arith in
    rw e (written_at (set xs i y) (i + 1) ys k d (omega arith) (omega (arith, length-set xs i y)))

-- what stands after the part stays
pub written_after : {A : Type 0} (xs : List A) (i : ℕ) (ys : List A) (j : ℕ) (d : A) → i + length ys ≤ j → get_or (written xs i ys) j d ≡ get_or xs j d
unfolding written
written_after xs i [] j d h = refl
written_after xs i (y ∷ ys) j d h =
    let n : j ≢ i = omega arith in
    written_after (set xs i y) (i + 1) ys j d (omega arith) ∙ get_or-set_other xs i j y d n
