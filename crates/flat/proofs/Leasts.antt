-- The least classes of inner flows.
use Rattle.std.proofs.Common.{◌≡◌, ℕ, zero, suc, ◌+◌, ◌<◌, ◌≤◌, Bool, true, false, cond, T, ltb, ◌⊎◌, List, ◌∷◌, map, sym, ◌∙◌, subst, inl, inr, arith}
use Rattle.std.specs.List.{AllByRecursion}
use Rattle.std.proofs.lemmas.Bool.{lt-ltb, le-ltb, cond-true, cond-false, cases_lt, cases_order}
use Rattle.classes.specs.Classes.{Classes, ClassLaws, joined}
use Rattle.flat.specs.declared.row.Clock.{Clock}
use Rattle.flat.specs.Programs.{Definition, input, plain, delay, Program, size, row, sources, clock_flows}
use Rattle.flat.specs.Beats.{AtInput}
use Rattle.flat.specs.Constraints.{clock_class, required, Constraint, Meets, Assigns}
use Rattle.flat.specs.Clearing.{In, Reaches, direct, onward, Marks, passing, reaching, least, MeetsInner, Clearable, Leak, ExactlyCleared, ExactClearing, AboveReaching, AtDefined, ClearedWithoutJoins, ClearingWithoutJoins}
use Rattle.flat.proofs.Alls.{all_at, all_of}
use Rattle.flat.proofs.Joins.{parts, whole, required_parts, required_whole}
use Rattle.flat.proofs.Reach.{from_main}

-- ---- the numbers that pass a test

kept : (P : ℕ → Type 0) (b : Bool) (k : ℕ) (ks : List ℕ) → (T b → P k) → AllByRecursion P ks → AllByRecursion P (cond b (k ∷ ks) ks)
kept P true k ks f h = (f tt, h)
kept P false k ks f h = h

passing_all : (P : ℕ → Type 0) (t : ℕ → Bool) (k n : ℕ) → ((d : ℕ) → d < k + n → T (t d) → P d) → AllByRecursion P (passing t k n)
passing_all P t k zero f = tt
passing_all P t k (suc n) f =
    kept P (t k) k (passing t (suc k) n) (f k (omega arith)) (passing_all P t (suc k) n (λ d l h. f d (omega arith) h))

passing_one : (P : ℕ → Type 0) (t : ℕ → Bool) (k n : ℕ) → AllByRecursion P (passing t k n) → (d : ℕ) → k ≤ d → d < k + n → T (t d) → P d
passing_one P t k zero h d a b c = absurd (omega arith)
passing_one P t k (suc n) h d a b c = by (t k) (λ e. subst (λ z. T (t z)) e c) h (cases_order d k) (passing_one P t (suc k) n)
  where
    by : (s : Bool) → (d ≡ k → T s) → AllByRecursion P (cond s (k ∷ passing t (suc k) n) (passing t (suc k) n)) → (d ≡ k) ⊎ ((d < k) ⊎ (k < d))
        → (AllByRecursion P (passing t (suc k) n) → (d : ℕ) → suc k ≤ d → d < suc k + n → T (t d) → P d) → P d
    by true g h (inl e) rec = subst P (sym e) h.0
    by true g h (inr (inl e)) rec = absurd (omega arith)
    by true g h (inr (inr e)) rec = rec h.1 d e (omega arith) c
    by false g h (inl e) rec = absurd (g e)
    by false g h (inr (inl e)) rec = absurd (omega arith)
    by false g h (inr (inr e)) rec = rec h d e (omega arith) c

-- ---- the lowest of some numbers at which a test fails

decided : (b : Bool) → T b ⊎ (T b → ⊥)
decided true = inl tt
decided false = inr (λ h. h)

lowest : (t : ℕ → Bool) (n : ℕ) → ((x : ℕ) → x < n → T (t x)) ⊎ ((x : ℕ) × (x < n) × (T (t x) → ⊥) × ((y : ℕ) → y < x → T (t y)))
lowest t zero = inl (λ x l. absurd (omega arith))
lowest t (suc n) = by (lowest t n) (decided (t n))
  where
    by : ((x : ℕ) → x < n → T (t x)) ⊎ ((x : ℕ) × (x < n) × (T (t x) → ⊥) × ((y : ℕ) → y < x → T (t y))) → T (t n) ⊎ (T (t n) → ⊥)
        → ((x : ℕ) → x < suc n → T (t x)) ⊎ ((x : ℕ) × (x < suc n) × (T (t x) → ⊥) × ((y : ℕ) → y < x → T (t y)))
    by (inr f) d = let e : f.0 < n = f.1 in inr (f.0, omega arith, f.2, f.3)
    by (inl h) (inr d) = inr (n, omega arith, d, h)
    by (inl h) (inl d) = inl (λ x l. at x l (cases_lt x n))
      where
        at : (x : ℕ) → x < suc n → (x < n) ⊎ (n ≤ x) → T (t x)
        at x l (inl g) = h x g
        at x l (inr g) = let e : n ≡ x = omega arith in subst (λ z. T (t z)) e d

-- ---- the least classes

module _ {C : Type 0} {m : Classes C} (laws : ClassLaws m) (p : Program) (has : ℕ → ℕ → Bool) (marks : Marks p has) (given : ℕ → C) where
  abbrev ◌⊑◌ : C → C → Type 0
  x ⊑ y = T (m.below x y)

  infix 50 ◌⊑◌
  abbrev found : ℕ → C
  found = least m p has given

  abbrev gathered : ℕ → C
  gathered x = joined m (map given (reaching p has x))

  same-⊑ : {x y : C} → x ≡ y → x ⊑ y
  same-⊑ {x} e = subst (λ z. x ⊑ z) e (laws.reflexive x)

  chain-⊑ : (x y z : C) → x ⊑ y → y ⊑ z → x ⊑ z
  chain-⊑ x y z h k = laws.transitive x y z h k

  main_is : Assigns p given found
  main_is x l = cond-true (ltb x p.main) (given x) (gathered x) (lt-ltb x p.main l)

  inner_is : (x : ℕ) → p.main ≤ x → found x ≡ gathered x
  inner_is x l = cond-false (ltb x p.main) (given x) (gathered x) (le-ltb x p.main l)

  -- a main flow is at or below what it reaches
  one_step : (class : ℕ → C) (d x : ℕ) → Constraint m p class x → In d (sources p x) → class d ⊑ class x
  one_step class d x h i =
      all_at (λ d. class d ⊑ class x) i (required_parts laws class (class x) p (row p x).clock (row p x).definition h)

  reach_inner : (class : ℕ → C) → Assigns p given class → MeetsInner m p class → {d x : ℕ} → Reaches p d x → p.main ≤ x → given d ⊑ class x
  reach_inner class assigns meets {d} (direct {x = x} h l i) inn =
      chain-⊑ (given d) (class d) (class x) (same-⊑ (sym (assigns d l))) (one_step class d x (meets x h inn) i)
  reach_inner class assigns meets {d} (onward {y = y} {x = x} w l h i) inn =
      chain-⊑ (given d) (class y) (class x) (reach_inner class assigns meets w l) (one_step class y x (meets x h inn) i)

  reach_below : (class : ℕ → C) → Assigns p given class → Meets m p class → {d x : ℕ} → Reaches p d x → given d ⊑ class x
  reach_below class assigns meets {d} (direct {x = x} h l i) =
      chain-⊑ (given d) (class d) (class x) (same-⊑ (sym (assigns d l))) (one_step class d x (meets x h) i)
  reach_below class assigns meets {d} (onward {y = y} {x = x} w l h i) =
      chain-⊑ (given d) (class y) (class x) (reach_inner class assigns (λ x h l. meets x h) w l) (one_step class y x (meets x h) i)

  -- what is gathered is at or above each that reaches, and at or below what each of these is
  gathers : (x d : ℕ) → Reaches p d x → given d ⊑ gathered x
  gathers x d w =
      passing_one (λ d. given d ⊑ gathered x) (λ d. has d x) 0 p.main
      (parts laws given (gathered x) (reaching p has x) (laws.reflexive (gathered x)))
      d (omega arith) (let e = from_main p w in omega arith) (marks.complete d x w)

  gathered_below : (x : ℕ) (t : C) → ((d : ℕ) → Reaches p d x → given d ⊑ t) → gathered x ⊑ t
  gathered_below x t f =
      whole laws given t (reaching p has x) (passing_all (λ d. given d ⊑ t) (λ d. has d x) 0 p.main (λ d l h. f d (marks.sound d x h)))

  -- a flow whose class is at or above each main flow that reaches it meets its constraint
  meets_at : (x : ℕ) → x < size p → ((d : ℕ) → Reaches p d x → given d ⊑ found x) → Constraint m p found x
  meets_at x h f =
      required_whole laws found (found x) p (row p x).clock (row p x).definition
      (all_of (λ d. found d ⊑ found x) (sources p x) (λ d i. by d i (cases_lt d p.main)))
    where
      by : (d : ℕ) → In d (sources p x) → (d < p.main) ⊎ (p.main ≤ d) → found d ⊑ found x
      by d i (inl l) = chain-⊑ (found d) (given d) (found x) (same-⊑ (main_is d l)) (f d (direct h l i))
      by d i (inr l) = chain-⊑ (found d) (gathered d) (found x) (same-⊑ (inner_is d l)) (gathered_below d (found x) (λ e w. f e (onward w l h i)))

  inner_meets : (x : ℕ) → x < size p → p.main ≤ x → Constraint m p found x
  inner_meets x h l = meets_at x h (λ d w. chain-⊑ (given d) (gathered x) (found x) (gathers x d w) (same-⊑ (sym (inner_is x l))))

  main_meets : (x : ℕ) → x < size p → x < p.main → AboveReaching m p given x → Constraint m p found x
  main_meets x h l f = meets_at x h (λ d w. chain-⊑ (given d) (given x) (found x) (f d w) (same-⊑ (sym (main_is x l))))

  under : (class : ℕ → C) → Assigns p given class → MeetsInner m p class → (x : ℕ) → found x ⊑ class x
  under class assigns meets x = by (cases_lt x p.main)
    where
      by : (x < p.main) ⊎ (p.main ≤ x) → found x ⊑ class x
      by (inl l) = same-⊑ (main_is x l ∙ sym (assigns x l))
      by (inr l) = chain-⊑ (found x) (gathered x) (class x) (same-⊑ (inner_is x l)) (gathered_below x (class x) (λ d w. reach_inner class assigns meets w l))

  found_meets : Clearable m p given → Meets m p found
  found_meets c x h = by (cases_lt x p.main)
    where
      by : (x < p.main) ⊎ (p.main ≤ x) → Constraint m p found x
      by (inl l) = main_meets x h l (λ d w. chain-⊑ (given d) (c.0 x) (given x) (reach_below c.0 c.1 c.2 w) (same-⊑ (c.1 x l)))
      by (inr l) = inner_meets x h l

  a_leak : (Clearable m p given → ⊥) → (x : ℕ) × Leak m p found x
  a_leak none = by (lowest (λ x. m.below (required m p found (row p x).clock (row p x).definition) (found x)) (size p))
    where
      by : Meets m p found ⊎ ((x : ℕ) × (x < size p) × (Constraint m p found x → ⊥) × ((y : ℕ) → y < x → Constraint m p found y)) → (x : ℕ) × Leak m p found x
      by (inl meets) = absurd (none (found, main_is, meets))
      by (inr f) = (f.0, record { main = at (cases_lt f.0 p.main); within = f.1; fails = f.2; lower = f.3 })
        where
          at : (f.0 < p.main) ⊎ (p.main ≤ f.0) → f.0 < p.main
          at (inl l) = l
          at (inr l) = absurd (f.2 (inner_meets f.0 f.1 l))

  one_leak : (x y : ℕ) → Leak m p found x → Leak m p found y → x ≡ y
  one_leak x y f g = by (cases_order x y)
    where
      by : (x ≡ y) ⊎ ((x < y) ⊎ (y < x)) → x ≡ y
      by (inl e) = e
      by (inr (inl l)) = absurd (f.fails (g.lower x l))
      by (inr (inr l)) = absurd (g.fails (f.lower y l))

  pub exactly_cleared : ExactlyCleared m p given (least m p has given)
  exactly_cleared = record {
    assigns = main_is;
    inner = inner_meets;
    least_inner = λ class assigns meets x h. under class assigns meets x;
    cleared = (found_meets, (λ meets. (found, main_is, meets)));
    least_cleared = λ class assigns meets x h. under class assigns (λ y l i. meets y l) x;
    refused = (a_leak, (λ f c. f.1.fails (found_meets c f.0 f.1.within)));
    one_leak = one_leak;
  }

  -- ---- without joins

  above_reaching : Meets m p found → (x : ℕ) → x < p.main → AboveReaching m p given x
  above_reaching meets x l d w = chain-⊑ (given d) (found x) (given x) (reach_below found main_is meets w) (same-⊑ (main_is x l))

  all_meets : ((x : ℕ) → x < size p → x < p.main → Constraint m p found x) → Meets m p found
  all_meets f x h = by (cases_lt x p.main)
    where
      by : (x < p.main) ⊎ (p.main ≤ x) → Constraint m p found x
      by (inl l) = f x h l
      by (inr l) = inner_meets x h l

  at_defined : (P : Type 0) (d : Definition) → P → AtDefined P d
  at_defined P input h = tt
  at_defined P (plain c) h = h
  at_defined P (delay v e) h = h

  -- a clock that goes by main flows alone has the same class either way
  input_to_given : (k : Clock) (x : ℕ) → x < p.main → (d : Definition) → AtInput (AllByRecursion (λ d. d < p.main) (clock_flows p k)) d
      → T (m.below (required m p found k d) (found x)) → AtInput (T (m.below (clock_class m p given k) (given x))) d
  input_to_given k x l input mains h =
      whole laws given (given x) (clock_flows p k) (all_of (λ d. given d ⊑ given x) (clock_flows p k) (λ d i.
      chain-⊑ (given d) (found d) (given x) (same-⊑ (sym (main_is d (all_at (λ d. d < p.main) i mains))))
      (chain-⊑ (found d) (found x) (given x) (all_at (λ d. found d ⊑ found x) i (parts laws found (found x) (clock_flows p k) h)) (same-⊑ (main_is x l)))))
  input_to_given k x l (plain c) mains h = tt
  input_to_given k x l (delay v e) mains h = tt

  -- the constraint of a main flow by the two rules
  by_rules : (k : Clock) (x : ℕ) → x < p.main → (d : Definition) → AtInput (AllByRecursion (λ d. d < p.main) (clock_flows p k)) d
      → (AboveReaching m p given x → T (m.below (required m p found k d) (found x)))
      → AtDefined (AboveReaching m p given x) d → AtInput (T (m.below (clock_class m p given k) (given x))) d
      → T (m.below (required m p found k d) (found x))
  by_rules k x l input mains f above rule =
      whole laws found (found x) (clock_flows p k) (all_of (λ d. found d ⊑ found x) (clock_flows p k) (λ d i.
      chain-⊑ (found d) (given d) (found x) (same-⊑ (main_is d (all_at (λ d. d < p.main) i mains)))
      (chain-⊑ (given d) (given x) (found x) (all_at (λ d. given d ⊑ given x) i (parts laws given (given x) (clock_flows p k) rule)) (same-⊑ (sym (main_is x l))))))
  by_rules k x l (plain c) mains f above rule = f above
  by_rules k x l (delay v e) mains f above rule = f above

  pub cleared_without_joins : ClearedWithoutJoins m p given (least m p has given)
  cleared_without_joins = record {
    main = (above_reaching, (λ f. all_meets (λ x h l. main_meets x h l (f x l))));
    outputs = λ mains. (
      (λ meets. (
        (λ x l. at_defined (AboveReaching m p given x) (row p x).definition (above_reaching meets x l)),
        (λ x h l. input_to_given (row p x).clock x l (row p x).definition (mains x h) (meets x h)),
      )),
      (λ f. all_meets (λ x h l. by_rules (row p x).clock x l (row p x).definition (mains x h) (main_meets x h l) (f.0 x l) (f.1 x h l))),
    );
  }

pub exact_clearing : {C : Type 0} {m : Classes C} → ClassLaws m → ExactClearing m
exact_clearing laws p has marks given = exactly_cleared laws p has marks given

pub clearing_without_joins : {C : Type 0} {m : Classes C} → ClassLaws m → ClearingWithoutJoins m
clearing_without_joins laws p has marks given = cleared_without_joins laws p has marks given
