-- What `parse` says of a word, against the number that a word writes.
use Rattle.std.proofs.Common.{◌≡◌, ◌≢◌, ℕ, ◌^◌, ◌<◌, ◌≤◌, Bool, true, false, cond, ◌&&◌, ltb, leb, List, [], ◌∷◌, length, get_or, Ok, Err, Result, refl, arith, ltb-true, leb-true, sym, ◌∙◌}
use Rattle.std.proofs.lemmas.Str.Parse.{IsNumeralModel, numerals_by_value, tells_all_ascii_digits, parse_plain}
use Rattle.std.proofs.lemmas.Result.{OkIff-at_ok, OkIff-at_err}
use Rattle.std.proofs.lemmas.Bool.{false≢true}
use Rattle.std.proofs.lemmas.Bool.Decides.{nat_tests}
use Rattle.std.specs.Result.{OkIff}
use Rattle.std.specs.Str.Parse.{digits_value, ParsesUnsigned}
use Rattle.std.specs.Str.{all_ascii_digits}
use Rattle.script.specs.declared.fault.LineFault.TheVariants.{NotInRange}
use Rattle.script.specs.Words.{number_in}

-- `digits_value` and `all_ascii_digits` as `parse` has them
own : IsNumeralModel (λ ds. all_ascii_digits ds ≡ true) (digits_value 10)
own = numerals_by_value (λ ds. all_ascii_digits ds ≡ true) tells_all_ascii_digits

-- a plus sign is no digit
signed_no_digits : (bs : List ℕ) → get_or bs 0 0 ≡ 43 → all_ascii_digits bs ≡ false
signed_no_digits [] e = absurd (omega arith)
signed_no_digits (c ∷ cs) e = rw e refl

-- a test that fails in one of its three parts
refused : {X : Type 0} (a b c : Bool) (x y : X) → (a ≡ true → b ≡ true → c ≡ true → ⊥) → y ≡ cond (a && (b && c)) x y
refused true true true x y h = absurd (h refl refl refl)
refused true true false x y h = refl
refused true false c x y h = refl
refused false b c x y h = refl

module _ {E : Type 0} (bs : List ℕ) (r : Result ℕ E) (h : ParsesUnsigned 32 10 bs r) where
  -- what `parse` says of a word without a sign
  plain : get_or bs 0 0 ≢ 43 → OkIff r ((all_ascii_digits bs ≡ true) × (0 < length bs) × (digits_value 10 bs < 2 ^ 32)) (digits_value 10 bs)
  plain unsigned = parse_plain own 32 bs r h unsigned

  -- where it gives a number that is not too large
  pub number_read : (n most : ℕ) → get_or bs 0 0 ≢ 43 → r ≡ Ok n → n ≤ most → Ok n ≡ number_in bs most
  number_read n most unsigned is small =
      let p = OkIff-at_ok r _ _ n (plain unsigned) is in
      let some = p.0.1 in
      let all = p.0.0 in
      let same = p.1 in
      grind (arith, nat_tests)

  -- where it gives none
  pub number_refused : (y : E) (most : ℕ) → r ≡ Err y → most < 2 ^ 32 → Err (NotInRange most) ≡ number_in bs most
  number_refused y most is fits =
      refused (ltb 0 (length bs)) (all_ascii_digits bs) (leb (digits_value 10 bs) most) _ _ (λ some all small.
      let unsigned : get_or bs 0 0 ≢ 43 = λ e. false≢true (sym (signed_no_digits bs e) ∙ all) in
      OkIff-at_err r _ _ y (plain unsigned) is (all, ltb-true 0 (length bs) some, omega (arith, leb-true (digits_value 10 bs) most small)))
