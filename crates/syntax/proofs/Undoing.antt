-- Decoders and encoders that undo each other, and lists of what such a pair reads.
use Rattle.std.proofs.Common.{◌≡◌, ℕ, zero, suc, ◌+◌, ◌-◌, ◌^◌, ◌<◌, List, [], ◌∷◌, ◌++◌, length, Ok, refl, ap, arith}
use Rattle.syntax.specs.Parse.{Parser, ◌>>=◌, field, many}
use Rattle.std.specs.List.{flat_map}
use Rattle.syntax.specs.Encoder.{Field}
use Rattle.std.specs.List.{AllByRecursion}
use Rattle.syntax.specs.Laws.{Counted}
use Rattle.syntax.proofs.Standing.{AreBits, Stands, Made, made_ok, made_after, stands_append, stands_parts, field_below, FieldFits}

-- what p reads is good and stands there as its fields; what is good and stands there is read by p; and
-- the fields of what is good have room
pub record Undoes {A : Type 0} (p : Parser A) (Good : A → Type 0) (fields : A → List Field) : Type 0 where
  pub back : (bits : List ℕ) (at : ℕ) → AreBits bits → Made (p bits at) (λ x q. Good x × Stands bits at (fields x) q)
  pub again : (bits : List ℕ) (at : ℕ) (x : A) (q : ℕ) → Good x → Stands bits at (fields x) q → p bits at ≡ Ok (x, q)
  pub fits : (x : A) → Good x → AllByRecursion FieldFits (fields x)

pub all_append : {A : Type 0} (P : A → Type 0) (xs ys : List A) → AllByRecursion P xs → AllByRecursion P ys → AllByRecursion P (xs ++ ys)
all_append P [] ys a b = b
all_append P (x ∷ xs) ys a b = (a.0, all_append P xs ys a.1 b)

-- what a field gives, with its bound
pub field_back : (w : ℕ) (bits : List ℕ) (at : ℕ) → AreBits bits → Made (field w bits at) (λ v m. (v < 2 ^ w) × (field w bits at ≡ Ok (v, m)))
field_back w bits at h = record { made = λ v m e. (field_below w bits at v m h e, e) }

pub undoes_field : (w : ℕ) → Undoes (field w) (λ v. v < 2 ^ w) (λ v. (w, v) ∷ [])
undoes_field w = record {
  back = λ bits at h. record { made = λ v m e. (field_below w bits at v m h e, (m, e, refl)) };
  again = λ bits at v q g s. rw (← s.2) s.1;
  fits = λ v g. (g, tt);
}

-- how many less one, in w bits, and these
abbrev pub some_by : {A : Type 0} → ℕ → Parser A → Parser (List A)
some_by w p = do
  n ← field w
  many p (n + 1)

abbrev pub SomeGood : {A : Type 0} → ℕ → (A → Type 0) → List A → Type 0
SomeGood w Good xs = Counted 1 (2 ^ w) xs × AllByRecursion Good xs

abbrev pub some_fields : {A : Type 0} → ℕ → (A → List Field) → List A → List Field
some_fields w fields xs = (w, length xs - 1) ∷ flat_map fields xs

module _ {A : Type 0} {p : Parser A} {Good : A → Type 0} {fields : A → List Field} (u : Undoes p Good fields) where
  pub many_back : (n : ℕ) (bits : List ℕ) (at : ℕ) → AreBits bits → Made (many p n bits at) (λ xs q. (length xs ≡ n) × AllByRecursion Good xs × Stands bits at (flat_map fields xs) q)
  unfolding many
  many_back zero bits at h = made_ok (refl, tt, refl)
  many_back (suc n) bits at h =
      made_after (p bits at) _ (u.back bits at h) λ x m a.
      made_after (many p n bits m) _ (many_back n bits m h) λ xs q b.
      made_ok (ap suc b.0, (a.0, b.1), stands_append bits at (fields x) (flat_map fields xs) m q a.1 b.2)

  pub many_again : (bits : List ℕ) (at : ℕ) (xs : List A) (q : ℕ) → AllByRecursion Good xs → Stands bits at (flat_map fields xs) q → many p (length xs) bits at ≡ Ok (xs, q)
  unfolding many
  many_again bits at [] q g s = rw s
  many_again bits at (x ∷ xs) q g s =
      let r = stands_parts bits at (fields x) (flat_map fields xs) q s in
      rw (u.again bits at x r.0 g.0 r.1, many_again bits r.0 xs q g.1 r.2)

  pub many_fits : (xs : List A) → AllByRecursion Good xs → AllByRecursion FieldFits (flat_map fields xs)
  many_fits [] g = tt
  many_fits (x ∷ xs) g = all_append FieldFits (fields x) (flat_map fields xs) (u.fits x g.0) (many_fits xs g.1)

  some_back : (w : ℕ) (bits : List ℕ) (at : ℕ) → AreBits bits → Made (some_by w p bits at) (λ xs q. SomeGood w Good xs × Stands bits at (some_fields w fields xs) q)
  some_back w bits at h =
      made_after (field w bits at) _ (field_back w bits at h) λ n m a.
      record {
        made = λ xs q r.
            let b = (many_back (n + 1) bits m h).made xs q r in
            let less : length xs - 1 ≡ n = omega (arith, b.0) in
            (((omega (arith, b.0), omega (arith, a.0, b.0)), b.1), (m, rw less a.1, b.2));
      }

  some_again : (w : ℕ) (bits : List ℕ) (at : ℕ) (xs : List A) (q : ℕ) → SomeGood w Good xs → Stands bits at (some_fields w fields xs) q → some_by w p bits at ≡ Ok (xs, q)
  some_again w bits at xs q g s =
      let l : length xs - 1 + 1 ≡ length xs = omega arith in
      rw (s.1, l) (many_again bits s.0 xs q g.1 s.2)

  pub undoes_some : (w : ℕ) → Undoes (some_by w p) (SomeGood w Good) (some_fields w fields)
  undoes_some w = record {
    back = some_back w;
    again = some_again w;
    fits = λ xs g. (omega (arith, g.0), many_fits xs g.1);
  }
