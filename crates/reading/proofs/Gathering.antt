-- What a loop keeps that reads one thing after another.
use Rattle.std.proofs.Common.{◌≡◌, ℕ, zero, suc, ◌+◌, ◌-◌, ◌<◌, ◌≤◌, List, [], ◌∷◌, ◌++◌, length, Ok, Err, Result, sym, refl, ap, ◌∙◌, append_assoc, append-nil, arith, length-append}
use Rattle.syntax.specs.declared.fault.ReadFault.{ReadFault}
use Rattle.syntax.specs.Parse.{Parser, many, after}

-- a reading of a list with xs before it
abbrev pub before : {A : Type 0} → List A → Result (List A × ℕ) ReadFault → Result (List A × ℕ) ReadFault
before xs (Ok r) = Ok (xs ++ r.0, r.1)
before xs (Err e) = Err e

-- xs has been read, k of n: what is left gives what all would
pub record Gathered {A : Type 0} (p : Parser A) (n : ℕ) (bits : List ℕ) (at₀ k at : ℕ) (xs : List A) : Type 0 where
  pub count : length xs ≡ k
  pub left : many p n bits at₀ ≡ before xs (many p (n - k) bits at)

after_one : {A : Type 0} (x : A) (r : Result (List A × ℕ) ReadFault) → after r (λ xs q. Ok (x ∷ xs, q)) ≡ before (x ∷ []) r
after_one x (Ok r) = refl
after_one x (Err e) = refl

many_none : {A : Type 0} (p : Parser A) (bits : List ℕ) (at : ℕ) → many p 0 bits at ≡ Ok ([], at)
unfolding many
many_none p bits at = refl

many_more : {A : Type 0} (p : Parser A) (n : ℕ) (bits : List ℕ) (at : ℕ) (x : A) (q : ℕ) → p bits at ≡ Ok (x, q) → many p (suc n) bits at ≡ before (x ∷ []) (many p n bits q)
unfolding many
many_more p n bits at x q e = rw e (after_one x (many p n bits q))

many_stops : {A : Type 0} (p : Parser A) (n : ℕ) (bits : List ℕ) (at : ℕ) (f : ReadFault) → p bits at ≡ Err f → many p (suc n) bits at ≡ Err f
unfolding many
many_stops p n bits at f e = rw e

before_none : {A : Type 0} (r : Result (List A × ℕ) ReadFault) → before [] r ≡ r
before_none (Ok r) = refl
before_none (Err e) = refl

before_more : {A : Type 0} (xs : List A) (x : A) (r : Result (List A × ℕ) ReadFault) → before xs (before (x ∷ []) r) ≡ before (xs ++ (x ∷ [])) r
before_more xs x (Ok r) = rw (append_assoc xs (x ∷ []) r.0)
before_more xs x (Err e) = refl

module _ {A : Type 0} (p : Parser A) (n : ℕ) (bits : List ℕ) (at₀ : ℕ) where
  pub gathered_none : Gathered p n bits at₀ 0 at₀ []
  gathered_none = let z : n - 0 ≡ n = omega arith in record { count = refl; left = rw z (sym (before_none (many p n bits at₀))) }

  pub gathered_more : {k at : ℕ} {xs : List A} (x : A) (q : ℕ) → Gathered p n bits at₀ k at xs → k < n → p bits at ≡ Ok (x, q) → Gathered p n bits at₀ (k + 1) q (xs ++ (x ∷ []))
  gathered_more {k} {at} {xs} x q g h e =
      let s : n - k ≡ suc (n - (k + 1)) = omega arith in
      let m = many_more p (n - (k + 1)) bits at x q e in
      record {
        count = simp length-append (omega (arith, g.count));
        left = g.left ∙ ap (λ j. before xs (many p j bits at)) s ∙ ap (before xs) m ∙ before_more xs x (many p (n - (k + 1)) bits q);
      }

  pub gathered_stops : {k at : ℕ} {xs : List A} (f : ReadFault) → Gathered p n bits at₀ k at xs → k < n → p bits at ≡ Err f → many p n bits at₀ ≡ Err f
  gathered_stops {k} {at} {xs} f g h e =
      let s : n - k ≡ suc (n - (k + 1)) = omega arith in
      let m = many_stops p (n - (k + 1)) bits at f e in
      g.left ∙ ap (λ j. before xs (many p j bits at)) s ∙ ap (before xs) m

  pub gathered_all : {k at : ℕ} {xs : List A} → Gathered p n bits at₀ k at xs → n ≤ k → many p n bits at₀ ≡ Ok (xs, at)
  gathered_all {k} {at} {xs} g h =
      let z : n - k ≡ 0 = omega arith in
      g.left ∙ ap (λ j. before xs (many p j bits at)) z ∙ ap (before xs) (many_none p bits at) ∙ ap (λ ys. Ok (ys, at)) (append-nil xs)

-- as many are read as were asked for
counts_two : {A : Type 0} (n : ℕ) (x : A) (r : Result (List A × ℕ) ReadFault) → ((ys : List A) (q : ℕ) → r ≡ Ok (ys, q) → length ys ≡ n) → (xs : List A) (q : ℕ) → after r (λ ys q. Ok (x ∷ ys, q)) ≡ Ok (xs, q) → length xs ≡ suc n
counts_two {A} n x (Ok r) ih xs q e =
    let w : ◌≡◌ {A = List A × ℕ} (xs, q) (x ∷ r.0, r.1) = cc in
    ap (λ v. length v.0) w ∙ ap suc (ih r.0 r.1 refl)
counts_two n x (Err f) ih xs q e = let z : ◌≡◌ {A = ℕ} 0 1 = cc in absurd (omega arith)

counts_one : {A : Type 0} (n : ℕ) (r : Result (A × ℕ) ReadFault) (k : A → ℕ → Result (List A × ℕ) ReadFault) (xs : List A) (q : ℕ) → ((x : A) (m : ℕ) → k x m ≡ Ok (xs, q) → length xs ≡ n) → after r k ≡ Ok (xs, q) → length xs ≡ n
counts_one n (Ok r) k xs q h e = h r.0 r.1 e
counts_one n (Err f) k xs q h e = let z : ◌≡◌ {A = ℕ} 0 1 = cc in absurd (omega arith)

pub many-counts : {A : Type 0} (p : Parser A) (n : ℕ) (bits : List ℕ) (at : ℕ) (xs : List A) (q : ℕ) → many p n bits at ≡ Ok (xs, q) → length xs ≡ n
unfolding many
many-counts {A} p zero bits at xs q e =
    let w : ◌≡◌ {A = List A × ℕ} (xs, q) ([], at) = cc in
    ap (λ v. length v.0) w
many-counts p (suc n) bits at xs q e = counts_one (suc n) (p bits at) _ xs q (λ x m f. counts_two n x (many p n bits m) (λ ys q g. many-counts p n bits m ys q g) xs q f) e
