-- How many of the first things are not done.
use Rattle.std.proofs.Common.{◌≡◌, ℕ, zero, suc, ◌+◌, ◌<◌, ◌≤◌, Bool, true, false, cond, not, IsTrue, List, [], ◌∷◌, length, get_or, set, take, replicate, count_by, refl, ap, ◌∙◌, arith, length-take-le}
use Rattle.std.proofs.Math.Seq.{take-set-lt}
use Rattle.std.proofs.lemmas.List.{take-replicate, get_or-take}
use Rattle.std.proofs.lemmas.List.Sums.{sum_by-cons, sum_by-set, get_or-le-sum_by}
use Rattle.std.proofs.lemmas.List.Folds.{sum_by-replicate}
use Rattle.order.specs.Picking.{marked}

abbrev pub left : List Bool → ℕ → ℕ
left done n = count_by not (take n done)

abbrev one : Bool → ℕ
one b = cond (not b) 1 0

pub left-replicate : (n m : ℕ) → n ≤ m → left (replicate m false) n ≡ n
left-replicate n m h =
    let e = ap (count_by not) (take-replicate n m false h) in
    omega (arith, e, sum_by-replicate one n false)

pub left-set : (done : List Bool) (n x : ℕ) → n ≤ length done → x < n → marked done x ≡ false → left (set done x true) n + 1 ≡ left done n
left-set done n x h l e =
    let a = ap (count_by not) (take-set-lt n done x true l) in
    let b : one (get_or (take n done) x false) ≡ 1 = ap one (get_or-take n done x false l ∙ e) in
    omega (arith, a, b, sum_by-set one (take n done) x true false (omega (arith, length-take-le n done h)))

pub left_some : (done : List Bool) (n : ℕ) → 0 < left done n → (x : ℕ) × (x < n) × (marked done x ≡ false)
left_some done zero h = absurd (omega arith)
left_some [] (suc n) h = absurd (omega arith)
left_some (false ∷ done) (suc n) h = (0, omega arith, refl)
left_some (true ∷ done) (suc n) h =
    let r = left_some done n (omega (arith, sum_by-cons one true (take n done))) in
    (suc r.0, omega (arith, r.1), r.2)

pub left_none : (done : List Bool) (n x : ℕ) → n ≤ length done → left done n ≡ 0 → x < n → IsTrue (marked done x)
left_none done n x h e l = by (marked done x) refl
  where
    by : (b : Bool) → marked done x ≡ b → b ≡ true
    by true p = refl
    by false p =
        let a : one (get_or (take n done) x false) ≡ 1 = ap one (get_or-take n done x false l ∙ p) in
        absurd (omega (arith, a, get_or-le-sum_by one (take n done) x false (omega (arith, length-take-le n done h))))
