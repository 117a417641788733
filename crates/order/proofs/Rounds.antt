-- Chains of equations and of flows, and what a settled table says of both.
use Rattle.std.proofs.Common.{◌≡◌, ℕ, ◌<◌, Bool, T, true, List, length, map, sym, refl, false, ◌∙◌, arith}
use Rattle.std.proofs.lemmas.List.{length-map}
use Rattle.std.proofs.lemmas.Float.{T_from_true}
use Rattle.syntax.specs.Syntax.{NodeSyntax}
use Rattle.rules.specs.Every.{has}
use Rattle.rules.specs.Names.{defined_by, equation_at}
use Rattle.rules.specs.Definitions.{needs, RestsOn, ByChain, NoCycle, Ordered}
use Rattle.rules.specs.Definitions.ByChain.{step, onward}
use Rattle.order.specs.Waiting.{waits_on}
use Rattle.order.specs.Table.{wait_rows}
use Rattle.order.specs.Picking.{Waits, Sorted}
use Rattle.order.proofs.Somes.{any_finds, any-has}
use Rattle.order.proofs.Tables.{marked-wait_rows}
use Rattle.order.proofs.Picks.{sorted_no_chain}

true_from_T : (b : Bool) → T b → b ≡ true
true_from_T true t = refl
true_from_T false t = absurd t

module _ (n : NodeSyntax) where
  abbrev Wait : ℕ → ℕ → Type 0
  Wait = Waits (wait_rows n)

  -- the table has a row for each equation
  many : length (wait_rows n) ≡ length n.equations
  many = length-map n.equations (λ e. map (waits_on n e) n.equations)

  inside : (e : ℕ) → e < length (wait_rows n) → e < length n.equations
  inside e l = omega (arith, many)

  abbrev Defines : ℕ → ℕ → Type 0
  Defines e x = T (has x (defined_by (equation_at n e).form))

  abbrev Needs : ℕ → ℕ → Type 0
  Needs e x = T (has x (needs n (equation_at n e)))

  -- an equation that waits on another needs a flow that this defines
  by_flow : (e d : ℕ) → Wait e d → (x : ℕ) × Needs e x × Defines d x
  by_flow e d w =
      let f = any_finds (λ y. has y (defined_by (equation_at n d).form)) (needs n (equation_at n e))
      (sym (marked-wait_rows n e d (inside e w.0) (inside d w.1)) ∙ w.2) in
      (f.0, T_from_true _ f.1, T_from_true _ f.2)

  waits : (e d x : ℕ) → e < length n.equations → d < length n.equations → Needs e x → Defines d x → Wait e d
  waits e d x le ld a b = (
    omega (arith, many),
    omega (arith, many),
    marked-wait_rows n e d le ld
        ∙ any-has (λ y. has y (defined_by (equation_at n d).form)) x (needs n (equation_at n e)) (true_from_T _ a) (true_from_T _ b),
  )

  -- a chain of equations is one of flows, which ends with the flow by which its last equation is reached

  last : {e d : ℕ} → ByChain Wait e d → ℕ
  last (step {x = e} {y = d} w) = (by_flow e d w).0
  last (onward w c) = last c

  last_defined : {e d : ℕ} (c : ByChain Wait e d) → Defines d (last c)
  unfolding last
  last_defined (step {x = e} {y = d} w) = (by_flow e d w).2
  last_defined (onward w c) = last_defined c

  flows_along : {e d : ℕ} (c : ByChain Wait e d) (x : ℕ) → Defines e x → ByChain (RestsOn n) x (last c)
  unfolding last
  flows_along (step {x = e} {y = d} w) x h = step (e, inside e w.0, h, (by_flow e d w).1)
  flows_along (onward {x = e} {y = d} w c) x h =
      let f = by_flow e d w in onward (e, inside e w.0, h, f.1) (flows_along c f.0 f.2)

  pub flow_round : (e : ℕ) → ByChain Wait e e → (x : ℕ) × ByChain (RestsOn n) x x
  flow_round e c = (last c, flows_along c (last c) (last_defined c))

  -- a chain of flows is one of equations, from the one by which it begins

  first : {x y : ℕ} → ByChain (RestsOn n) x y → (e : ℕ) × (e < length n.equations) × Defines e x
  first (step (e, l, h, k)) = (e, l, h)
  first (onward (e, l, h, k) c) = (e, l, h)

  equations_along : {x y : ℕ} (c : ByChain (RestsOn n) x y) (d : ℕ) → d < length n.equations → Defines d y → ByChain Wait (first c).0 d
  unfolding first
  equations_along (step {y = y} (e, l, h, k)) d ld hd = step (waits e d y l ld k hd)
  equations_along (onward {y = y} (e, l, h, k) c) d ld hd =
      let f = first c in onward (waits e f.0 y l f.1 k f.2) (equations_along c d ld hd)

  equation_round : (x : ℕ) → ByChain (RestsOn n) x x → (e : ℕ) × ByChain Wait e e
  equation_round x c = let f = first c in (f.0, equations_along c f.0 f.1 f.2)

  module _ (order : List ℕ) (sorted : Sorted (wait_rows n) order) where
    pub sorted_no_cycle : NoCycle n
    sorted_no_cycle x c = let r = equation_round x c in sorted_no_chain (wait_rows n) order sorted r.0 r.1

    pub sorted_order : Ordered n order
    sorted_order = record {
      all = sorted.all ∙ many;
      inside = λ i l. inside _ (sorted.inside i l);
      apart = sorted.apart;
      covers = λ e l. sorted.covers e (omega (arith, many));
      after = λ i l d y ld a b. sorted.after i l d (waits _ d y (inside _ (sorted.inside i l)) ld a b);
    }
