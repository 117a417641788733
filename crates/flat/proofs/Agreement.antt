-- Two runs agree at any flows that are closed under what bears on them.
use Rattle.std.proofs.Common.{◌≡◌, ℕ, zero, suc, ◌<◌, cond, List, [], ◌∷◌, ◌++◌, length, get_or, ℤ, pos, Some, sym, refl, ap, ◌∙◌, subst, ap₂, arith}
use Rattle.std.specs.List.{AllZip, AllByRecursion}
use Rattle.syntax.specs.declared.header.Kind.{Kind}
use Rattle.numbers.specs.Reckonings.{Reckonings}
use Rattle.rules.specs.Trees.{Exp, Control, flow, truth, number, unary, binary, when, simple, merge, choose}
use Rattle.flat.specs.declared.row.Clock.{Clock}
use Rattle.flat.specs.declared.row.Clock.TheVariants.{Base, On}
use Rattle.flat.specs.declared.value.Value.{Value}
use Rattle.flat.specs.Programs.{Definition, input, plain, delay, Program, size, row, exp_flows, control_flows, clock_flow, chain, clock_flows, needs_of, needs, sources_of, sources, Ordered}
use Rattle.flat.specs.Values.{Answers, read_as, constant_value, says, gate, unary_value, binary_value, picked, exp_value, control_value, on}
use Rattle.flat.specs.Beats.{Held, due, renewed, AtDelay, AtInput, Beat, Run, none, beat}
use Rattle.syntax.proofs.Undoing.{all_append}
use Rattle.flat.proofs.Alls.{all_at, all_of, all_left, all_right}

-- the flow that a clock names is one that it goes by, so what a flow needs bears on it
module _ (P : ℕ → Type 0) (p : Program) where
  own : (n : ℕ) → 0 < n → (k : Clock) → AllByRecursion P (chain p n k) → AllByRecursion P (clock_flow k)
  own zero h k a = absurd (omega arith)
  own (suc n) h Base a = tt
  own (suc n) h (On x s) a = (a.0, tt)

  needed_of : (k : Clock) (d : Definition) → 0 < size p → AllByRecursion P (sources_of p k d) → AllByRecursion P (needs_of k d)
  needed_of k input h a = own (size p) h k a
  needed_of k (plain c) h a =
      all_append P (clock_flow k) (control_flows c) (own (size p) h k (all_left P (clock_flows p k) (control_flows c) a)) (all_right P (clock_flows p k) (control_flows c) a)
  needed_of k (delay v e) h a = own (size p) h k (all_left P (clock_flows p k) (exp_flows e) a)

  pub needed : (x : ℕ) → x < size p → AllByRecursion P (sources p x) → AllByRecursion P (needs p x)
  needed x h a = needed_of (row p x).clock (row p x).definition (omega arith) a

-- a value goes by the flows that its expression names
module _ {N : Type 0} (r : Reckonings N) (a b : Answers N) where
  abbrev Eq : ℕ → Type 0
  Eq d = a d ≡ b d

  pub exp_same : (e : Exp) → AllByRecursion Eq (exp_flows e) → exp_value r a e ≡ exp_value r b e
  exp_same (flow x) h = h.0
  exp_same (truth t) h = refl
  exp_same (number z) h = refl
  exp_same (unary o e) h = ap (unary_value r o) (exp_same e h)
  exp_same (binary o e f) h =
      ap₂ (binary_value r o) (exp_same e (all_left Eq (exp_flows e) (exp_flows f) h)) (exp_same f (all_right Eq (exp_flows e) (exp_flows f) h))
  exp_same (when e x s) h =
      ap₂ (λ v w. gate (says s v) w) (all_right Eq (exp_flows e) (x ∷ []) h).0 (exp_same e (all_left Eq (exp_flows e) (x ∷ []) h))

  pub control_same : (c : Control) → AllByRecursion Eq (control_flows c) → control_value r a c ≡ control_value r b c
  control_same (simple e) h = exp_same e h
  control_same (merge x c d) h =
      let left = control_same c (all_left Eq (control_flows c) (control_flows d ++ (x ∷ [])) h) in
      let rest = all_right Eq (control_flows c) (control_flows d ++ (x ∷ [])) h in
      let right = control_same d (all_left Eq (control_flows d) (x ∷ []) rest) in
      let by = (all_right Eq (control_flows d) (x ∷ []) rest).0 in
      λ t. picked (by t) (left t) (right t)
  control_same (choose e c d) h =
      let by = exp_same e (all_left Eq (exp_flows e) (control_flows c ++ control_flows d) h) in
      let rest = all_right Eq (exp_flows e) (control_flows c ++ control_flows d) h in
      let left = control_same c (all_left Eq (control_flows c) (control_flows d) rest) in
      let right = control_same d (all_right Eq (control_flows c) (control_flows d) rest) in
      λ t. picked (by t) (left t) (right t)

  pub on_same : (k : Clock) → AllByRecursion Eq (clock_flow k) → on a k ≡ on b k
  on_same Base h = refl
  on_same (On x s) h = ap (says s) h.0

  -- one flow at one beat
  module _ (h k : Held N) (is js : List ℤ) (x : ℕ) (w : Kind) (c : Clock) where
    pub answer_same : (d : Definition) → AllByRecursion Eq (needs_of c d) → AtInput (get_or is x (pos 0) ≡ get_or js x (pos 0)) d → AtDelay (λ v e. h x ≡ k x) d
        → gate (on a c) (due r h is a x w d) ≡ gate (on b c) (due r k js b x w d)
    answer_same input e read kept = ap₂ (λ t z. gate t (Some (read_as r w z))) (on_same c e) read
    answer_same (plain g) e read kept =
        ap₂ gate (on_same c (all_left Eq (clock_flow c) (control_flows g) e)) (control_same g (all_right Eq (clock_flow c) (control_flows g) e))
    answer_same (delay v g) e read kept = ap₂ (λ t u. gate t (Some u)) (on_same c e) kept

    pub held_same : (h' k' : Held N) (d : Definition) → AllByRecursion Eq (clock_flow c) → AtDelay (λ v e. AllByRecursion Eq (exp_flows e)) d → AtDelay (λ v e. h x ≡ k x) d
        → AtDelay (λ v e. h' x ≡ cond (on a c) (renewed (exp_value r a e) (h x)) (h x)) d
        → AtDelay (λ v e. k' x ≡ cond (on b c) (renewed (exp_value r b e) (k x)) (k x)) d
        → AtDelay (λ v e. h' x ≡ k' x) d
    held_same h' k' input own_same named kept p q = tt
    held_same h' k' (plain g) own_same named kept p q = tt
    held_same h' k' (delay v g) own_same named kept p q =
        p ∙ (λ t. cond (on_same c own_same t) (renewed (exp_same g named t) (kept t)) (kept t)) ∙ sym q

-- of what bears on a flow: what its clock and what a delay's expression names
module _ (P : ℕ → Type 0) (p : Program) (k : Clock) where
  clock_part : (d : Definition) → 0 < size p → AllByRecursion P (sources_of p k d) → AllByRecursion P (clock_flow k)
  clock_part input h a = own P p (size p) h k a
  clock_part (plain c) h a = own P p (size p) h k (all_left P (clock_flows p k) (control_flows c) a)
  clock_part (delay v e) h a = own P p (size p) h k (all_left P (clock_flows p k) (exp_flows e) a)

  pub delay_part : (d : Definition) → AllByRecursion P (sources_of p k d) → AtDelay (λ v e. AllByRecursion P (exp_flows e)) d
  delay_part input a = tt
  delay_part (plain c) a = tt
  delay_part (delay v e) a = all_right P (clock_flows p k) (exp_flows e) a

-- delays start with the same
pub starts_same : {N : Type 0} (r : Reckonings N) (h k : Value N) (d : Definition) → AtDelay (λ v e. h ≡ constant_value r v) d → AtDelay (λ v e. k ≡ constant_value r v) d → AtDelay (λ v e. h ≡ k) d
starts_same r h k input f g = tt
starts_same r h k (plain c) f g = tt
starts_same r h k (delay v e) f g = f ∙ sym g

-- what a flow needs stands before it
pub before : {p : Program} {order : List ℕ} → Ordered p order → (n x : ℕ) → n < length order → get_or order n 0 ≡ x
    → AllByRecursion (λ d. (j : ℕ) × (j < n) × (get_or order j 0 ≡ d)) (needs p x)
before {p} {order} o n x placed is = subst (λ y. AllByRecursion (λ d. (j : ℕ) × (j < n) × (get_or order j 0 ≡ d)) (needs p y)) is (o.after n placed)

module _ {N : Type 0} (r : Reckonings N) (p : Program) (order : List ℕ) (o : Ordered p order)
    (low : ℕ → Type 0) (closed : (x : ℕ) → x < size p → low x → AllByRecursion low (sources p x)) where
  abbrev pub Reads : List ℤ → List ℤ → Type 0
  Reads is js = (x : ℕ) → x < size p → low x → AtInput (get_or is x (pos 0) ≡ get_or js x (pos 0)) (row p x).definition

  abbrev pub Keeps : Held N → Held N → Type 0
  Keeps h k = (x : ℕ) → x < size p → low x → AtDelay (λ v e. h x ≡ k x) (row p x).definition

  abbrev pub Agrees : Answers N → Answers N → Type 0
  Agrees a b = (x : ℕ) → x < size p → low x → a x ≡ b x

  module _ (h k h' k' : Held N) (is js : List ℤ) (a b : Answers N) (A : Beat r p h is a h') (B : Beat r p k js b k')
      (reads : Reads is js) (keeps : Keeps h k) where
    by_turn : (bound n x : ℕ) → n < bound → n < length order → get_or order n 0 ≡ x → x < size p → low x → a x ≡ b x
    by_turn zero n x below placed is_x in_p low_x = absurd (omega arith)
    by_turn (suc bound) n x below placed is_x in_p low_x =
        let same : AllByRecursion (λ d. a d ≡ b d) (needs p x) =
        all_of (λ d. a d ≡ b d) (needs p x) (λ d i.
        let f = all_at (λ d. (j : ℕ) × (j < n) × (get_or order j 0 ≡ d)) i (before o n x placed is_x) in
        let e : f.0 < n = f.1 in
        by_turn bound f.0 d (omega arith) (omega arith) f.2
        (all_at (λ d. d < size p) i (needed (λ d. d < size p) p x in_p (o.named x in_p)))
        (all_at low i (needed low p x in_p (closed x in_p low_x)))) in
        A.answered x in_p
        ∙ answer_same r a b h k is js x (row p x).kind (row p x).clock (row p x).definition same (reads x in_p low_x) (keeps x in_p low_x)
        ∙ sym (B.answered x in_p)

    pub beat_same : Agrees a b
    beat_same x in_p low_x =
        let s = o.stands x in_p in
        by_turn (suc s.0) s.0 x (omega arith) s.1 s.2 in_p low_x

    pub beat_keeps : Keeps h' k'
    beat_keeps x in_p low_x =
        let same : AllByRecursion (λ d. a d ≡ b d) (sources p x) =
        all_of (λ d. a d ≡ b d) (sources p x) (λ d i.
        beat_same d (all_at (λ d. d < size p) i (o.named x in_p)) (all_at low i (closed x in_p low_x))) in
        held_same r a b h k is js x (row p x).kind (row p x).clock h' k' (row p x).definition
        (clock_part (λ d. a d ≡ b d) p (row p x).clock (row p x).definition (omega arith) same)
        (delay_part (λ d. a d ≡ b d) p (row p x).clock (row p x).definition same)
        (keeps x in_p low_x) (A.renews x in_p) (B.renews x in_p)

  -- beat after beat
  pub runs_same : {h k h' k' : Held N} {is js : List (List ℤ)} {as' bs : List (Answers N)} → Run r p h is as' h' → Run r p k js bs k'
      → Keeps h k → AllZip Reads is js → AllZip Agrees as' bs × Keeps h' k'
  runs_same none none keeps reads = (tt, keeps)
  runs_same none (beat B more) keeps reads = absurd reads
  runs_same (beat A more) none keeps reads = absurd reads
  runs_same (beat {held = h} {next = h'} {readings = i} {answers = a} A more) (beat {held = k} {next = k'} {readings = j} {answers = b} B others) keeps reads =
      let rest = runs_same more others (beat_keeps h k h' k' i j a b A B reads.0 keeps) reads.1 in
      ((beat_same h k h' k' i j a b A B reads.0 keeps, rest.0), rest.1)
