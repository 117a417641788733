-- Wrapping gives the one number of 32 bits that differs from its argument by a multiple of 2 ^ 32.
use Rattle.std.proofs.Common.{◌≡◌, ℕ, suc, ◌+◌, ◌-◌, ◌*◌, ◌/◌, ◌%◌, ◌^◌, true, false, ltb, ◌⊎◌, ℤ, pos, negsuc, ◌-ℤ◌, nat_abs, refl, ap, ◌∙◌, inl, inr, ⊎_elim, arith, w32, to_z}
use native.Mathlib.Nat.{mul-mod_right}
use mir.Val.{sel}
use Rattle.std.specs.Int.{int_wrap}
use Rattle.std.proofs.lemmas.Int.{ints, SFits-int_wrap}
use Rattle.std.proofs.lemmas.Bool.{cases_order}
use Rattle.numbers.specs.Points.{wrap}
use Rattle.numbers.specs.Laws.{Point, Congruent}

pub wrap_range : (z : ℤ) → Point (wrap z)
wrap_range z = let f = SFits-int_wrap w32 z in (omega (arith, ints), omega (arith, ints))

-- bits that are read are their number, or 2 ^ 32 less
read : (n : ℕ) → (to_z w32 n ≡ pos n) ⊎ (to_z w32 n ≡ negsuc (4294967296 - suc n))
read n =
    elim (ltb n 2147483648) as (λ t. let r : ℤ = sel t (pos n) (negsuc (4294967296 - suc n)) in (r ≡ pos n) ⊎ (r ≡ negsuc (4294967296 - suc n))) [ true ↦ inl refl | false ↦ inr refl ]

multiple : (d : ℤ) (k : ℕ) → nat_abs d ≡ 4294967296 * k → nat_abs d % 2 ^ 32 ≡ 0
multiple d k e = ap (λ n. n % 4294967296) e ∙ mul-mod_right 4294967296 k

pub wrap_congruent : (z : ℤ) → Congruent (wrap z) z
unfolding int_wrap
wrap_congruent (pos a) =
    ⊎_elim
    (λ e. multiple (wrap (pos a) -ℤ pos a) (a / 4294967296) (omega (arith, ints)))
    (λ e. multiple (wrap (pos a) -ℤ pos a) (a / 4294967296 + 1) (omega (arith, ints)))
    (read (a % 4294967296))
wrap_congruent (negsuc a) =
    ⊎_elim
    (λ e. multiple (wrap (negsuc a) -ℤ negsuc a) (a / 4294967296 + 1) (omega (arith, ints)))
    (λ e. multiple (wrap (negsuc a) -ℤ negsuc a) (a / 4294967296) (omega (arith, ints)))
    (read (4294967295 - a % 4294967296))

-- two numbers of 32 bits that differ by a multiple of 2 ^ 32 are the same
one_point : (x y z : ℤ) → Point x → Point y → Congruent x z → Congruent y z → x ≡ y
one_point x y z p q e f =
    ⊎_elim (λ o. omega (arith, ints)) (⊎_elim (λ o. omega (arith, ints)) (λ o. omega (arith, ints)))
    (cases_order (nat_abs (x -ℤ z) / 4294967296) (nat_abs (y -ℤ z) / 4294967296))

pub wrap_only : (z y : ℤ) → Point y → Congruent y z → y ≡ wrap z
wrap_only z y p e = one_point y (wrap z) z p (wrap_range z) e (wrap_congruent z)
