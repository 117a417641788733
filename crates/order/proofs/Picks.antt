-- Picking one by one: what is picked is sorted, and what is left waits.
use Rattle.bits.proofs.Lists.{read_replicated}
use Rattle.std.proofs.Common.{◌≡◌, ℕ, ◌+◌, ◌<◌, ◌≤◌, Bool, true, false, IsTrue, ◌⊎◌, List, [], ◌∷◌, ◌++◌, length, get_or, set, replicate, sym, refl, ap, ◌∙◌, subst, inl, inr, arith, get_or-set_other, get_or-set_same, below_more}
use Rattle.std.proofs.lemmas.Bool.{cases_eq, both_ways}
use Rattle.std.proofs.lemmas.List.{get_or_append_left, get_or_push, length_push}
use Rattle.rules.specs.Definitions.{ByChain}
use Rattle.rules.specs.Definitions.ByChain.{step, onward}
use Rattle.order.specs.Picking.{marked, Waits, Free, Held, Stuck, Sorted}
use Rattle.order.proofs.Circles.{Next, circle}
use Rattle.order.proofs.Marks.{left, left-replicate, left-set, left_some, left_none}

module _ (t : List (List Bool)) (order : List ℕ) where
  -- what a chain leads to stands before where it begins
  chain_before : Sorted t order → {x y : ℕ} → ByChain (Waits t) x y → (i : ℕ) → i < length order → get_or order i 0 ≡ x → (j : ℕ) × (j < i) × (get_or order j 0 ≡ y)
  chain_before o {x} {y} (step r) i h e = o.after i h y (subst (λ v. Waits t v y) (sym e) r)
  chain_before o {x} {y} (onward {y = w} r c) i h e =
      let a = o.after i h w (subst (λ v. Waits t v w) (sym e) r) in
      let l : a.0 < i = a.1 in
      let b = chain_before o c a.0 (omega arith) a.2 in
      let m : b.0 < a.0 = b.1 in
      (b.0, omega arith, b.2)

  -- where all are sorted, none waits on itself by a chain
  pub sorted_no_chain : Sorted t order → (x : ℕ) → ByChain (Waits t) x x → ⊥
  sorted_no_chain o x c = by (o.covers x (starts c))
    where
      starts : {y : ℕ} → ByChain (Waits t) x y → x < length t
      starts (step r) = r.0
      starts (onward r d) = r.0

      by : (i : ℕ) × (i < length order) × (get_or order i 0 ≡ x) → ⊥
      by (i, h, e) = let b = chain_before o c i h e in o.apart b.0 i b.1 h (b.2 ∙ sym e)

-- those in the order are picked, and they are done
pub record Picking (t : List (List Bool)) (order : List ℕ) (done : List Bool) : Type 0 where
  pub inside : (i : ℕ) → i < length order → get_or order i 0 < length t
  pub apart : (i j : ℕ) → i < j → j < length order → get_or order i 0 ≡ get_or order j 0 → ⊥
  pub after : (i : ℕ) → i < length order → (y : ℕ) → Waits t (get_or order i 0) y → (j : ℕ) × (j < i) × (get_or order j 0 ≡ y)
  pub known : (x : ℕ) → IsTrue (marked done x) → (j : ℕ) × (j < length order) × (get_or order j 0 ≡ x)
  pub noted : (j : ℕ) → j < length order → IsTrue (marked done (get_or order j 0))
  pub count : left done (length t) + length order ≡ length t

pub picking_none : (t : List (List Bool)) (m : ℕ) → length t ≤ m → Picking t [] (replicate m false)
picking_none t m h = record {
  inside = λ i l. absurd (omega arith);
  apart = λ i j l m e. absurd (omega arith);
  after = λ i l. absurd (omega arith);
  known = λ x e. absurd (both_ways _ (read_replicated false m x) e);
  noted = λ j l. absurd (omega arith);
  count = omega (arith, left-replicate (length t) m h);
}

module _ (t : List (List Bool)) (order : List ℕ) (done : List Bool) (o : Picking t order done) (wide : length t ≤ length done) where
  pub picking_more : (x : ℕ) → x < length t → marked done x ≡ false → Free t done x → Picking t (order ++ x ∷ []) (set done x true)
  picking_more x hx unmarked_x free = record {
    inside = each (λ i. at i < length t) (λ i l. subst (λ v. v < length t) (sym (old i l)) (o.inside i l)) (subst (λ v. v < length t) (sym new) hx);
    apart = λ i j l m. apart' j m i l;
    after = each (λ i. (y : ℕ) → Waits t (at i) y → Before i y)
        (λ i l y w. earlier i y (omega arith) (o.after i l y (subst (λ v. Waits t v y) (old i l) w)))
        (λ y w. earlier (length order) y (omega arith) (o.known y (free y (subst (λ v. Waits t v y) new w))));
    known = known';
    noted = each (λ j. IsTrue (marked (set done x true) (at j)))
        (λ j l. keeps (at j) (ap (marked done) (old j l) ∙ o.noted j l))
        (ap (marked (set done x true)) new ∙ get_or-set_same done x true false (omega arith));
    count = let c = o.count in omega (arith, left-set done (length t) x wide hx unmarked_x, length_push order x);
  }
    where
      at : ℕ → ℕ
      at i = get_or (order ++ x ∷ []) i 0

      old : (i : ℕ) → i < length order → get_or (order ++ x ∷ []) i 0 ≡ get_or order i 0
      old i l = get_or_append_left order (x ∷ []) 0 i l

      new : get_or (order ++ x ∷ []) (length order) 0 ≡ x
      new = get_or_push order x 0 (length order) refl

      -- a fact of every place, those before and the new one
      each : (P : ℕ → Type 0) → ((i : ℕ) → i < length order → P i) → P (length order) → (i : ℕ) → i < length (order ++ x ∷ []) → P i
      each P before here i l = below_more P (length order) before here i (omega (arith, length_push order x))

      Before : ℕ → ℕ → Type 0
      Before i y = (j : ℕ) × (j < i) × (get_or (order ++ x ∷ []) j 0 ≡ y)

      earlier : (i y : ℕ) → i ≤ length order → (j : ℕ) × (j < i) × (get_or order j 0 ≡ y) → (j : ℕ) × (j < i) × (get_or (order ++ x ∷ []) j 0 ≡ y)
      earlier i y h (j, l, p) = (j, l, old j (omega arith) ∙ p)

      apart' : (j : ℕ) → j < length (order ++ x ∷ []) → (i : ℕ) → i < j → get_or (order ++ x ∷ []) i 0 ≡ get_or (order ++ x ∷ []) j 0 → ⊥
      apart' = each (λ j. (i : ℕ) → i < j → at i ≡ at j → ⊥)
          (λ j m i l e. o.apart i j l m (sym (old i (omega arith)) ∙ e ∙ old j m))
          (λ i l e. both_ways _ unmarked_x (ap (marked done) (sym (sym (old i l) ∙ e ∙ new)) ∙ o.noted i l))

      known' : (z : ℕ) → IsTrue (marked (set done x true) z) → (j : ℕ) × (j < length (order ++ x ∷ [])) × (get_or (order ++ x ∷ []) j 0 ≡ z)
      known' z m = by (cases_eq z x)
        where
          longer : (j : ℕ) × (j < length order) × (get_or order j 0 ≡ z) → (j : ℕ) × (j < length (order ++ x ∷ [])) × (get_or (order ++ x ∷ []) j 0 ≡ z)
          longer (j, l, p) = (j, omega (arith, length_push order x), old j l ∙ p)

          by : (z ≡ x) ⊎ (z ≡ x → ⊥) → (j : ℕ) × (j < length (order ++ x ∷ [])) × (get_or (order ++ x ∷ []) j 0 ≡ z)
          by (inl p) = (length order, omega (arith, length_push order x), new ∙ sym p)
          by (inr p) = longer (o.known z (sym (get_or-set_other done x z true false p) ∙ m))

      keeps : (z : ℕ) → IsTrue (marked done z) → IsTrue (marked (set done x true) z)
      keeps z m = by (cases_eq z x)
        where
          by : (z ≡ x) ⊎ (z ≡ x → ⊥) → IsTrue (marked (set done x true) z)
          by (inl p) = ap (marked (set done x true)) p ∙ get_or-set_same done x true false (omega arith)
          by (inr p) = get_or-set_other done x z true false p ∙ m

  pub picking_stuck : length order < length t → ((x : ℕ) → x < length t → Stuck t done x) → (x : ℕ) × ByChain (Waits t) x x
  picking_stuck h stuck = by (left_some done (length t) (let c = o.count in omega arith))
    where
      next : (x : ℕ) → (y : ℕ) × Held t done x y → Next (Waits t) (marked done) (length t) x
      next x (y, (r, f)) = (y, r.1, f, step r)

      by : (x : ℕ) × (x < length t) × (marked done x ≡ false) → (x : ℕ) × ByChain (Waits t) x x
      by (x, l, e) = circle (Waits t) (marked done) (length t) x l e (λ z hz ez. next z (stuck z hz ez))

  pub picking_all : length order ≡ length t → Sorted t order
  picking_all e = record {
    all = e;
    inside = o.inside;
    apart = o.apart;
    covers = λ x l. o.known x (left_none done (length t) x wide (let c = o.count in omega arith) l);
    after = o.after;
  }
