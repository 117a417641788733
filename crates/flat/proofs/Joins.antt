-- A constraint holds exactly when each flow that bears on a flow is at or below it; and the classes of clocks.
use Rattle.std.proofs.Common.{◌≡◌, ℕ, zero, suc, ◌<◌, ◌≤◌, Bool, T, List, [], ◌∷◌, map, length, get_or, sym, refl, ap, ◌∙◌, arith}
use Rattle.std.specs.List.{AllByRecursion}
use Rattle.classes.specs.Classes.{Classes, ClassLaws, joined}
use Rattle.std.proofs.ByRecursion.{All-map}
use Rattle.classes.proofs.Joins.{first_below, second_below, above, least}
use Rattle.flat.specs.declared.row.Clock.{Clock}
use Rattle.flat.specs.declared.row.Clock.TheVariants.{Base, On}
use Rattle.flat.specs.Programs.{Definition, input, plain, delay, Program, size, row, exp_flows, control_flows, clock_flow, chain, clock_flows, needs_of, sources_of, Ordered}
use Rattle.flat.specs.Constraints.{exp_class, control_class, clock_class, required, ClockClasses, OrderedClockClasses}
use Rattle.syntax.proofs.Undoing.{all_append}
use Rattle.flat.proofs.Alls.{map_all, all_left, all_right}
use Rattle.flat.proofs.Agreement.{before}

module _ {C : Type 0} {m : Classes C} (laws : ClassLaws m) (class : ℕ → C) (t : C) where
  abbrev Low : ℕ → Type 0
  Low d = T (m.below (class d) t)

  pub parts : (ds : List ℕ) → T (m.below (joined m (map class ds)) t) → AllByRecursion Low ds
  parts ds h = map_all (λ c. T (m.below c t)) class ds (above laws (map class ds) t h)

  pub whole : (ds : List ℕ) → AllByRecursion Low ds → T (m.below (joined m (map class ds)) t)
  whole ds h = least laws (map class ds) t (All-map (λ c. T (m.below c t)) class ds h)

  pub required_parts : (p : Program) (k : Clock) (d : Definition) → T (m.below (required m p class k d) t) → AllByRecursion Low (sources_of p k d)
  required_parts p k input h = parts (clock_flows p k) h
  required_parts p k (plain c) h =
      all_append Low (clock_flows p k) (control_flows c)
      (parts (clock_flows p k) (first_below laws (clock_class m p class k) (control_class m class c) t h))
      (parts (control_flows c) (second_below laws (clock_class m p class k) (control_class m class c) t h))
  required_parts p k (delay v e) h =
      all_append Low (clock_flows p k) (exp_flows e)
      (parts (clock_flows p k) (first_below laws (clock_class m p class k) (exp_class m class e) t h))
      (parts (exp_flows e) (second_below laws (clock_class m p class k) (exp_class m class e) t h))

  pub required_whole : (p : Program) (k : Clock) (d : Definition) → AllByRecursion Low (sources_of p k d) → T (m.below (required m p class k d) t)
  required_whole p k input h = whole (clock_flows p k) h
  required_whole p k (plain c) h =
      laws.join_least (clock_class m p class k) (control_class m class c) t
      (whole (clock_flows p k) (all_left Low (clock_flows p k) (control_flows c) h))
      (whole (control_flows c) (all_right Low (clock_flows p k) (control_flows c) h))
  required_whole p k (delay v e) h =
      laws.join_least (clock_class m p class k) (exp_class m class e) t
      (whole (clock_flows p k) (all_left Low (clock_flows p k) (exp_flows e) h))
      (whole (exp_flows e) (all_right Low (clock_flows p k) (exp_flows e) h))

-- a chain is no longer than its place in the order
own_need : (P : ℕ → Type 0) (k : Clock) (d : Definition) → AllByRecursion P (needs_of k d) → AllByRecursion P (clock_flow k)
own_need P k input h = h
own_need P k (plain c) h = all_left P (clock_flow k) (control_flows c) h
own_need P k (delay v e) h = h

module _ {p : Program} {order : List ℕ} (o : Ordered p order) where
  chain_base : (n : ℕ) → chain p n Base ≡ []
  chain_base zero = refl
  chain_base (suc n) = refl

  longer : (i n l : ℕ) (k : Clock) → AllByRecursion (λ d. (j : ℕ) × (j < i) × (get_or order j 0 ≡ d)) (clock_flow k)
      → ((j y n l : ℕ) → j < i → get_or order j 0 ≡ y → j ≤ n → j ≤ l → chain p n (row p y).clock ≡ chain p l (row p y).clock)
      → i ≤ n → i ≤ l → chain p n k ≡ chain p l k
  longer i n l Base f rec a b = chain_base n ∙ sym (chain_base l)
  longer i zero l (On y s) f rec a b = let e : f.0.0 < i = f.0.1 in absurd (omega arith)
  longer i (suc n) zero (On y s) f rec a b = let e : f.0.0 < i = f.0.1 in absurd (omega arith)
  longer i (suc n) (suc l) (On y s) f rec a b =
      let e : f.0.0 < i = f.0.1 in
      ap (λ ds. y ∷ ds) (rec f.0.0 y n l f.0.1 f.0.2 (omega arith) (omega arith))

  enough : (bound i x n l : ℕ) → i < bound → i < length order → get_or order i 0 ≡ x → i ≤ n → i ≤ l → chain p n (row p x).clock ≡ chain p l (row p x).clock
  enough zero i x n l below placed is_x a b = absurd (omega arith)
  enough (suc bound) i x n l below placed is_x a b =
      longer i n l (row p x).clock
      (own_need (λ d. (j : ℕ) × (j < i) × (get_or order j 0 ≡ d)) (row p x).clock (row p x).definition (before o i x placed is_x))
      (λ j y n l e is_y a b. enough bound j y n l (omega arith) (omega arith) is_y a b)
      a b

  unrolled : (n i x : ℕ) (s : Bool) → i < n → i < length order → get_or order i 0 ≡ x → chain p n (On x s) ≡ x ∷ chain p n (row p x).clock
  unrolled zero i x s l placed is_x = absurd (omega arith)
  unrolled (suc n) i x s l placed is_x = ap (λ ds. x ∷ ds) (enough (suc i) i x n (suc n) (omega arith) placed is_x (omega arith) (omega arith))

  pub clock_class_rules : {C : Type 0} (m : Classes C) (class : ℕ → C) → ClockClasses m p class
  clock_class_rules m class = record {
    base = ap (λ ds. joined m (map class ds)) (chain_base (size p));
    derived = λ x s h.
        let t = o.stands x h in
        let e : t.0 < length order = t.1 in
        let q = o.all in
        ap (λ ds. joined m (map class ds)) (unrolled (size p) t.0 x s (omega arith) t.1 t.2);
  }

pub clock_classes : {C : Type 0} (m : Classes C) → OrderedClockClasses m
clock_classes m p order o class = clock_class_rules o m class
