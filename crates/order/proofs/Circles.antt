-- Where everything waits there is a chain round.
use Rattle.std.proofs.Common.{◌≡◌, ℕ, zero, suc, ◌<◌, Bool, true, false, ⊎_elim, sym, refl, ap, ◌∙◌, subst, arith}
use Rattle.std.proofs.lemmas.Bool.{both_ways, cases_eq}
use Rattle.rules.specs.Definitions.{ByChain}
use Rattle.rules.specs.Definitions.ByChain.{step, onward}

chain_join : {R : ℕ → ℕ → Type 0} {x y z : ℕ} → ByChain R x y → ByChain R y z → ByChain R x z
chain_join (step r) d = onward r d
chain_join (onward r c) d = onward r (chain_join c d)

-- where each thing below n of which u is false has a chain to such a thing, one has a chain to itself: the last
-- thing is left out, and every chain to it goes on to where its own chain leads
module _ (R : ℕ → ℕ → Type 0) (u : ℕ → Bool) where
  abbrev pub Next : ℕ → ℕ → Type 0
  Next n x = (y : ℕ) × (y < n) × (u y ≡ false) × ByChain R x y

  narrow : (n y : ℕ) → y < suc n → (y ≡ n → ⊥) → y < n
  narrow n y h ne = omega (arith, ne)

  abbrev Circle : ℕ → Type 0
  Circle n = (x : ℕ) → x < n → u x ≡ false → ((x : ℕ) → x < n → u x ≡ false → Next n x) → (z : ℕ) × ByChain R z z

  -- past the last thing
  through : (n y : ℕ) → y < n → u y ≡ false → ByChain R n y → (z : ℕ) → Next (suc n) z → Next n z
  through n y h e c z (w, k, f, d) =
      ⊎_elim
      (λ (p : w ≡ n). (y, h, e, chain_join (subst (ByChain R z) p d) c))
      (λ (p : w ≡ n → ⊥). (w, narrow n w k p, f, d))
      (cases_eq w n)

  -- the last thing is one of them
  from_last : (n : ℕ) → Circle n → ((x : ℕ) → x < suc n → u x ≡ false → Next (suc n) x) → Next (suc n) n → (z : ℕ) × ByChain R z z
  from_last n rec all (y, k, f, c) =
      ⊎_elim
      (λ (p : y ≡ n). (n, subst (ByChain R n) p c))
      (λ (p : y ≡ n → ⊥). rec y (narrow n y k p) f (λ z hz ez. through n y (narrow n y k p) f c z (all z (omega arith) ez)))
      (cases_eq y n)

  -- the last thing is none of them
  without : (n : ℕ) → u n ≡ true → (z : ℕ) → Next (suc n) z → Next n z
  without n p z (w, k, f, d) = (w, narrow n w k (λ q. both_ways (u n) (sym (ap u q) ∙ f) p), f, d)

  circle_step : (n : ℕ) → Circle n → (b : Bool) → u n ≡ b → Circle (suc n)
  circle_step n rec false p x h e all = from_last n rec all (all n (omega arith) p)
  circle_step n rec true p x h e all =
      rec x (narrow n x h (λ q. both_ways (u n) (sym (ap u q) ∙ e) p)) e (λ z hz ez. without n p z (all z (omega arith) ez))

  pub circle : (n : ℕ) → Circle n
  circle zero x h e all = absurd (omega arith)
  circle (suc n) x h e all = circle_step n (circle n) (u n) refl x h e all
